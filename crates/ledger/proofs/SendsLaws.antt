-- Laws of `specs/SendsLaws.antt`. Assumes nothing.
use Rattle.std.specs.Prelude.{true, false, ◌≡◌, ℕ, zero, suc, ◌+◌, ◌≤◌, ◌<◌}
use mathlib.Core.List.{List, [], ◌∷◌, ◌++◌}
use Rattle.std.proofs.Math.Path.{refl}
use Rattle.std.proofs.Common.{sym, ap, ◌∙◌, arith, length-append}
use Rattle.std.proofs.Math.ListN.{length}
use borrow.Author.Tests.{lt-leb, le-leb}
use Rattle.octets.specs.Logic.{choose, both, apart}
use Rattle.refusal.specs.Answer.{Answer, gives, refuses, refuse}
use Rattle.requests.specs.Room.{capacity}
use Rattle.requests.specs.declared.Request.{Request}
use Rattle.sequence.specs.Numbering.{last_number}
use Rattle.sequence.specs.Sending.{sync_span, must_sync}
use Rattle.model.specs.Client.{Client}
use Rattle.model.specs.Model.{fresh, has_reply, joining, send_request}
use Rattle.model.specs.Calls.{Call, send, Said, number, refused, Step, step, Ran, run}
use Rattle.model.specs.Promise.{guarded_on, same}
use Rattle.model.specs.Reading.{Rooms, reads}
use Rattle.model.specs.Sound.{Sound, is_sound}
use Rattle.model.specs.declared.Connection.{Connection}
use Rattle.model.specs.declared.ReplyFdKind.{ReplyFdKind}
use Rattle.connection.specs.Calls.{Opens, Sends}
use Rattle.connection.specs.Opening.{opens_fresh, opens_sound}
use Rattle.connection.specs.Theorems.{refusal_leaves}
use Rattle.honest.specs.Public.{state_of}
use Rattle.session.specs.Ask.{send_request_ask}
use Rattle.session.specs.AskLaws.{goes_sound}
use Rattle.ledger.specs.Promised.{promise_refuses, promise_gave}
use Rattle.ledger.proofs.RoomLaws.{send_row, false_no_sync}
use Rattle.ledger.specs.Sends.{most_sends, without_reply, numbers_from, sends_of, all_no_room, said_of, SendsRow, none, one}
use Rattle.ledger.specs.SendsLaws.{client_after, Passes}

-- a row after a row
pub run_append : (c : Client) (xs ys : List Call) → (run c (xs ++ ys)).said ≡ (run c xs).said ++ (run (run c xs).end ys).said
unfolding run
run_append c [] ys = refl
run_append c (x ∷ xs) ys = ap (λ (l : List Said). (step c x).said ∷ l) (run_append (step c x).next xs ys)

module _ (o s w e : ℕ) (out : List Request) (kind : ReplyFdKind) (ends : w < last_number) where
  -- a send passes,
  pub send_passes : (has_reply kind ≡ false → w < e + sync_span) → length out < most_sends
      → step (client_after o s w e out) (send kind) ≡ record { said = number (w + 1); next = client_after o s (w + 1) (choose (has_reply kind) (w + 1) e) (out ++ (joining kind ∷ [])) }
  unfolding step refuse
  send_passes sync room =
      rw (send_row (client_after o s w e out) kind, lt-leb last_number w ends, false_no_sync (has_reply kind) w e sync, lt-leb most_sends (length out) room) refl

  -- is refused by 6,
  pub send_synced : has_reply kind ≡ false → e + sync_span ≤ w → step (client_after o s w e out) (send kind) ≡ record { said = refused 6; next = client_after o s w e out }
  unfolding step refuse both must_sync
  send_synced without sync = rw (send_row (client_after o s w e out) kind, lt-leb last_number w ends, without, le-leb (e + sync_span) w sync) refl

  -- or by 5
  pub send_full : (has_reply kind ≡ false → w < e + sync_span) → most_sends ≤ length out → step (client_after o s w e out) (send kind) ≡ record { said = refused 5; next = client_after o s w e out }
  unfolding step refuse
  send_full sync room =
      rw (send_row (client_after o s w e out) kind, lt-leb last_number w ends, false_no_sync (has_reply kind) w e sync, le-leb most_sends (length out) room) refl

one_more : (out : List Request) (r : Request) → length (out ++ (r ∷ [])) ≡ length out + 1
one_more out r = length-append out (r ∷ [])

pub passes : (o s w e : ℕ) (out : List Request) (n : ℕ) → w + n ≤ e + sync_span → w + n ≤ last_number → length out + n ≤ most_sends → Passes o s w e out n
unfolding run without_reply numbers_from choose
passes o s w e out zero a b d =
    let i : w + 0 ≡ w = omega arith in
    record { outstanding = out; many = omega arith; runs = λ k. record { said = []; end = client_after o s (sym i k) e out } }
passes o s w e out (suc n) a b d =
    let out' : List Request = out ++ (joining ReplyFdKind.NoReply ∷ []) in
    let l : length out' ≡ length out + 1 = one_more out (joining ReplyFdKind.NoReply) in
    let rest : Passes o s (w + 1) e out' n = passes o s (w + 1) e out' n (omega arith) (omega arith) (omega arith) in
    let here = send_passes o s w e out ReplyFdKind.NoReply (omega arith) (λ q. omega arith) (omega arith) in
    let i : w + 1 + n ≡ w + suc n = omega arith in
    record {
      outstanding = rest.outstanding;
      many = omega (arith, rest.many);
      runs =
          (λ k. record { said = (here k).said ∷ (run (here k).next (without_reply n)).said; end = (run (here k).next (without_reply n)).end })
          ∙ (λ k. record { said = number (w + 1) ∷ (rest.runs k).said; end = (rest.runs k).end })
          ∙ (λ k. record { said = number (w + 1) ∷ numbers_from (w + 1 + 1) n; end = client_after o s (i k) e rest.outstanding });
    }

-- where the room is full every send is refused by 5
full_sends : (o s w e : ℕ) (out : List Request) (kinds : List ReplyFdKind) → w < last_number → w < e + sync_span → most_sends ≤ length out → (run (client_after o s w e out) (sends_of kinds)).said ≡ all_no_room kinds
unfolding run sends_of all_no_room
full_sends o s w e out [] a b d = refl
full_sends o s w e out (kind ∷ kinds) a b d =
    let here = send_full o s w e out kind a (λ q. b) d in
    (λ k. (here k).said ∷ (run (here k).next (sends_of kinds)).said) ∙ ap (λ (l : List Said). refused 5 ∷ l) (full_sends o s w e out kinds a b d)

-- ---- a fresh client

pub fresh_sends : (o s n : ℕ) → n ≤ sync_span → (run (fresh o most_sends s) (without_reply n)).said ≡ numbers_from 1 n
unfolding numbers_from
fresh_sends o s n h = ap (λ (y : Ran). y.said) (passes o s 0 0 [] n (omega arith) (omega arith) (omega arith)).runs

-- a call of which it is known what it comes to, and the rest
run_on : (c : Client) (x : Call) (t : Step) (xs : List Call) (l : List Said) → step c x ≡ t → (run t.next xs).said ≡ l → (run c (x ∷ xs)).said ≡ t.said ∷ l
unfolding run
run_on c x t xs l e q = (λ k. (e k).said ∷ (run (e k).next xs).said) ∙ ap (λ (y : List Said). t.said ∷ y) q

-- those after the 65,534 that passed
module _ (o s : ℕ) (kind : ReplyFdKind) (reply : has_reply kind ≡ true) (kinds : List ReplyFdKind) (out : List Request) (many : length out ≡ sync_span) where
  with_reply : step (client_after o s sync_span 0 out) (send kind) ≡ record { said = number 65535; next = client_after o s 65535 65535 (out ++ (joining kind ∷ [])) }
  unfolding choose
  with_reply =
      send_passes o s sync_span 0 out kind (omega arith) (λ q. apart reply q) (omega arith)
      ∙ (λ k. record { said = number 65535; next = client_after o s 65535 (choose (reply k) 65535 0) (out ++ (joining kind ∷ [])) })

  pub four : (run (client_after o s sync_span 0 out) (send ReplyFdKind.NoReply ∷ send kind ∷ send ReplyFdKind.NoReply ∷ sends_of kinds)).said ≡ refused 6 ∷ number 65535 ∷ number 65536 ∷ all_no_room kinds
  unfolding choose
  four =
      let next : List Request = out ++ (joining kind ∷ []) in
      let l : length next ≡ length out + 1 = one_more out (joining kind) in
      let last : List Request = next ++ (joining ReplyFdKind.NoReply ∷ []) in
      let m : length last ≡ length next + 1 = one_more next (joining ReplyFdKind.NoReply) in
      run_on _ _ _ _ _ (send_synced o s sync_span 0 out ReplyFdKind.NoReply (omega arith) refl (omega arith))
      (run_on _ _ _ _ _ with_reply
      (run_on _ _ _ _ _ (send_passes o s 65535 65535 next ReplyFdKind.NoReply (omega arith) (λ q. omega arith) (omega arith))
      (full_sends o s 65536 65535 last kinds (omega arith) (omega arith) (omega arith))))

pub fresh_values : (o s : ℕ) (kind : ReplyFdKind) → has_reply kind ≡ true → (kinds : List ReplyFdKind)
    → (run (fresh o most_sends s) (without_reply 65534 ++ (send ReplyFdKind.NoReply ∷ send kind ∷ send ReplyFdKind.NoReply ∷ sends_of kinds))).said
    ≡ numbers_from 1 65534 ++ (refused 6 ∷ number 65535 ∷ number 65536 ∷ all_no_room kinds)
fresh_values o s kind reply kinds =
    let p : Passes o s 0 0 [] 65534 = passes o s 0 0 [] 65534 (omega arith) (omega arith) (omega arith) in
    run_append (fresh o most_sends s) (without_reply 65534) _
    ∙ (λ k. (p.runs k).said ++ (run (p.runs k).end (send ReplyFdKind.NoReply ∷ send kind ∷ send ReplyFdKind.NoReply ∷ sends_of kinds)).said)
    ∙ ap (λ (l : List Said). numbers_from 1 65534 ++ l) (four o s kind reply kinds p.outstanding p.many)

-- ---- the public call

-- it says what the model says, and leaves a sound state that is read as the model's
record SaysSame (c : Connection) (r : Rooms) (kind : ReplyFdKind) (a : Answer (ℕ × Connection)) (r' : Rooms) : Type 0 where
  step_is : step (reads c r) (send kind) ≡ record { said = said_of a; next = reads (state_of a c) r' }
  sound : Sound (state_of a c) r'

says_same : (c : Connection) (r : Rooms) → Sound c r → (kind : ReplyFdKind) (a : Answer (ℕ × Connection)) (r' : Rooms) → Sends c r kind a r' → SaysSame c r kind a r'
unfolding step said_of state_of
says_same c r S kind (gives x) r' h =
    let g = promise_gave same _ (λ m. send_request m kind) c r x.0 x.1 r' h in
    record { step_is = rw g.model (λ k. record { said = number (sym g.shown k); next = reads x.1 r' }); sound = goes_sound (send_request_ask kind) tt c r S (gives x) r' tt h }
says_same c r S kind (refuses n) r' h =
    let e : r' ≡ r = refusal_leaves same _ _ c r n r' h in
    let q : send_request (reads c r) kind ≡ refuses n = sym (guarded_on c r (send_request (reads c r) kind) (is_sound c r S)) ∙ (promise_refuses same _ (λ m. send_request m kind) c r (refuses n) r' h n).0 refl in
    record { step_is = rw (q, e) refl; sound = rw e S }

pub row_said : {c : Connection} {r : Rooms} {xs : List Call} {said : List Said} → Sound c r → SendsRow c r xs said → said ≡ (run (reads c r) xs).said
unfolding run
row_said S none = refl
row_said {c} {r} S (one {xs = xs} kind a r' h k) =
    let z = says_same c r S kind a r' h in
    ap (λ (l : List Said). said_of a ∷ l) (row_said z.sound k) ∙ sym (λ i. (z.step_is i).said ∷ (run (z.step_is i).next xs).said)

pub opened_said : (o : ℕ) (r : Rooms) (c : Connection) → Opens o r (gives (tt, c)) → capacity r.requests ≡ most_sends → {xs : List Call} {said : List Said} → SendsRow c r xs said → said ≡ (run (fresh o most_sends (length r.store)) xs).said
opened_said o r c h k {xs} row = row_said (opens_sound o r c h) row ∙ ap (λ (y : Client). (run y xs).said) (opens_fresh o r c h ∙ ap (λ (n : ℕ). fresh o n (length r.store)) k)

pub new_values : (o : ℕ) (r : Rooms) (c : Connection) → Opens o r (gives (tt, c)) → capacity r.requests ≡ most_sends → (kind : ReplyFdKind) → has_reply kind ≡ true → (kinds : List ReplyFdKind)
    → (said : List Said) → SendsRow c r (without_reply 65534 ++ (send ReplyFdKind.NoReply ∷ send kind ∷ send ReplyFdKind.NoReply ∷ sends_of kinds)) said → said ≡ numbers_from 1 65534 ++ (refused 6 ∷ number 65535 ∷ number 65536 ∷ all_no_room kinds)
new_values o r c h k kind reply kinds said row = opened_said o r c h k row ∙ fresh_values o (length r.store) kind reply kinds
