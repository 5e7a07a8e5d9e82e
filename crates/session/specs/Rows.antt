-- A call that makes many steps is a row of single calls: so what holds of each of these holds of it. Assumes nothing.
use mathlib.Core.List.{List, [], ◌∷◌}
use Rattle.std.specs.Prelude.{◌≡◌, Bool, length, take}
use Rattle.std.proofs.Math.Path.{refl, ap, subst}
use Rattle.std.proofs.Common.{sym, ◌∙◌}
use Prim.Native.Nat.{ℕ}
use Rattle.refusal.specs.Answer.{Answer, gives, refuses}
use Rattle.model.specs.Client.{Held, Client}
use Rattle.model.specs.Model.{has_reply, packet, poll_for_event}
use Rattle.model.specs.Promise.{Done, answer_of, rooms_of, model_of, guarded, Promise, exact_given, guarded_on, promise_sound, same}
use Rattle.model.specs.Reading.{Rooms, reads}
use Rattle.model.specs.Says.{shown_taken}
use Rattle.model.specs.Sound.{Sound, is_sound}
use Rattle.model.specs.Batch.{goes, Many, many, Stop, ended, Site, site, notes}
use Rattle.model.specs.BatchLaws.{many_row}
use Rattle.model.specs.SendRequests.{kind_of, ShownSendings, shown_sendings}
use Rattle.model.specs.PollForEvents.{turns, Lent, lent, room_for, Handings, ShownHandings, shown_handings}
use Rattle.model.specs.declared.Connection.{Connection}
use Rattle.sending.specs.Theorems.{send_model, send_sound}
use Rattle.polling.specs.Exact.{event_exact}
use Rattle.polling.specs.Theorems.{event_model, event_leaves}
use Rattle.batch.specs.Send.{send_step, sends_exact}
use Rattle.batch.specs.Events.{event_step, events_exact}
use Rattle.batch.specs.Theorems.{Any, all_any, send_gave, event_gave, handed_done}
use Rattle.connection.specs.Calls.{Sends, SendsMany, PollsEvents}
use Rattle.honest.specs.Run.{Entry, sent}
use Rattle.honest.specs.Public.{state_of}
use Rattle.session.specs.Session.{sent_all, note_sends}

-- a single call that was made from a sound state keeps its promise
made : {A B : Type 0} (f : A → B) (e : Answer (Done A)) (m : Client → Answer (A × Client)) (c : Connection) (r : Rooms) → (Sound c r → model_of e ≡ m (reads c r)) → Sound c r → (d : Done A) → gives d ≡ e
    → Promise f e m c r (gives (f d.value, d.state)) d.left
made f e m c r law S d g = promise_sound f e m c r law _ _ (is_sound c r S) (exact_given f e r d g)

-- what goes with the state through a row: that it is sound, and P
pub record Carried (P : Connection → Rooms → Type 1) (s : Site) : Type 1 where
  pub sound : Sound s.state s.left
  pub held : P s.state s.left

-- ---- `send_requests`

-- P goes with the state through each `send_request` that is accepted,
module _ (P : Connection → Rooms → List Entry → Type 1)
    (carries : (c : Connection) (r : Rooms) (l : List Entry) → Sound c r → P c r l → (byte n : ℕ) (c' : Connection) (r' : Rooms) → Sends c r (kind_of byte) (gives (n, c')) r' → P c' r' (sent (has_reply (kind_of byte)) ∷ l)) where
  abbrev Along : Site → List Entry → Type 1
  Along s l = Carried (λ c r. P c r l) s

  send_carries : (s : Site) (l : List Entry) → Along s l → (byte : ℕ) → Any byte → (n : ℕ) (s' : Site) → goes n s' ≡ send_step s byte → Along s' (sent (has_reply (kind_of byte)) ∷ l)
  send_carries s l k byte u n s' e =
      let g = send_gave s.state s.left byte n s' e in
      record {
        sound = send_sound s.state s.left k.sound (kind_of byte) _ g;
        held = carries s.state s.left l k.sound k.held byte n s'.state s'.left (made same _ _ s.state s.left (λ S. send_model s.state s.left S (kind_of byte)) k.sound _ g);
      }

  notes_sent : (bytes vs : List ℕ) (l : List Entry) → notes (λ (b n : ℕ) (k : List Entry). sent (has_reply (kind_of b)) ∷ k) bytes vs l ≡ sent_all (take (length vs) bytes) l
  unfolding notes sent_all
  notes_sent [] [] l = refl
  notes_sent [] (n ∷ vs) l = refl
  notes_sent (b ∷ bytes) [] l = refl
  notes_sent (b ∷ bytes) (n ∷ vs) l = notes_sent bytes vs (sent (has_reply (kind_of b)) ∷ l)

  -- and so through `send_requests`.
  pub sends_row : (c : Connection) (r : Rooms) (l : List Entry) → Sound c r → P c r l → (bytes : List ℕ) (a : Answer (ShownSendings × Connection)) (r' : Rooms) → SendsMany c r bytes a r' → P (state_of a c) r' (note_sends bytes a l)
  unfolding answer_of rooms_of sends_exact state_of note_sends
  sends_row c r l S p bytes a r' h =
      let g : guarded c r (sends_exact c r bytes) ≡ sends_exact c r bytes = guarded_on c r (sends_exact c r bytes) (is_sound c r S) in
      let x : Many ℕ Stop Site = many send_step ended (site c r) bytes in
      let q : Along x.end (notes (λ (b n : ℕ) (k : List Entry). sent (has_reply (kind_of b)) ∷ k) bytes x.values l) = many_row send_step Along (λ b n k. sent (has_reply (kind_of b)) ∷ k) Any send_carries ended (site c r) bytes l (record { sound = S; held = p }) (all_any bytes) in
      let w : P x.end.state x.end.left (sent_all (take (length x.values) bytes) l) = subst (λ k. P x.end.state x.end.left k) (notes_sent bytes x.values l) q.held in
      subst (λ y. P (state_of y c) r' (note_sends bytes y l)) (sym (h.exact.answers ∙ ap (answer_of shown_sendings) g))
      (subst (λ y. P x.end.state y (sent_all (take (length x.values) bytes) l)) (sym (h.exact.leaves ∙ ap (λ y. rooms_of y r) g)) w)

-- ---- `poll_for_events`

-- P goes with the state through each poll that hands an event out,
module _ (P : Connection → Rooms → Type 1)
    (carries : (c : Connection) (r : Rooms) → Sound c r → P c r → (bytes : ℕ) (h : Held) (c' : Connection) (r' : Rooms)
    → Promise shown_taken (event_exact c r bytes) (λ m. poll_for_event m bytes) c r (gives (shown_taken (packet h), c')) r' → P c' r') where
  abbrev Beside : Lent Site → Unit {0} → Type 1
  Beside t u = Carried P t.at

  event_carries : (t : Lent Site) (u : Unit {0}) → Beside t u → (marks : Bool) → Any marks → (h : Held) (t' : Lent Site) → goes h t' ≡ event_step t marks → Beside t' u
  event_carries t u k marks i h t' e =
      let g = event_gave t marks h t' e in
      record {
        sound = event_leaves t.at.state t.at.left k.sound (room_for marks t.room) _ g;
        held = carries t.at.state t.at.left k.sound k.held (room_for marks t.room) h t'.at.state t'.at.left
            (made shown_taken _ _ t.at.state t.at.left (λ S. event_model t.at.state t.at.left S (room_for marks t.room)) k.sound _ g);
      }

  notes_none : {X A L : Type 0} (xs : List X) (vs : List A) (l : L) → notes (λ (x : X) (a : A) (k : L). k) xs vs l ≡ l
  unfolding notes
  notes_none [] vs l = refl
  notes_none (x ∷ xs) [] l = refl
  notes_none (x ∷ xs) (a ∷ vs) l = notes_none xs vs l

  -- and so through `poll_for_events`.
  pub events_row : (c : Connection) (r : Rooms) → Sound c r → P c r → (out marks : List ℕ) (a : Answer (ShownHandings × Connection)) (r' : Rooms) (out' marks' : List ℕ) → PollsEvents c r out marks a r' out' marks' → P (state_of a c) r'
  unfolding answer_of rooms_of events_exact state_of
  events_row c r S p out marks a r' out' marks' h = go (events_exact c r (length out) (length marks)) refl (h.packets.promise.exact.answers ∙ ap (answer_of shown_handings) g) (h.packets.promise.exact.leaves ∙ ap (λ y. rooms_of y r) g)
    where
      g : guarded c r (events_exact c r (length out) (length marks)) ≡ events_exact c r (length out) (length marks)
      g = guarded_on c r (events_exact c r (length out) (length marks)) (is_sound c r S)

      x : Many Held Stop (Lent Site)
      x = many event_step ended (lent (site c r) (length out)) (turns (length marks))

      q : Beside x.end tt
      q = subst (λ u. Beside x.end u) (notes_none (turns (length marks)) x.values tt)
          (many_row event_step Beside (λ b n u. u) Any event_carries ended (lent (site c r) (length out)) (turns (length marks)) tt (record { sound = S; held = p }) (all_any (turns (length marks))))

      go : (y : Answer (Done Handings)) → y ≡ events_exact c r (length out) (length marks) → a ≡ answer_of shown_handings y → r' ≡ rooms_of y r → P (state_of a c) r'
      go (gives d) e i j =
          let z = handed_done x d e in
          subst (λ y. P (state_of y c) r') (sym i)
          (subst (λ y. P d.state y) (sym j) (subst (λ y. P y d.left) (sym z.0) (subst (λ y. P x.end.at.state y) (sym z.1) q.held)))
      go (refuses n) e i j = subst (λ y. P (state_of y c) r') (sym i) (subst (λ y. P c y) (sym j) p)
