-- Laws of `specs/Calls.antt`. Assumes nothing.
use Rattle.std.specs.Prelude.{Bool, true, false, List, [], ◌∷◌, ◌++◌, ◌≡◌, ℕ, max}
use Rattle.std.proofs.Math.Path.{refl, ap}
use Rattle.std.proofs.Common.{sym, ◌∙◌, inl, inr, arith}
use Rattle.octets.specs.Logic.{choose}
use Rattle.refusal.specs.Answer.{Answer, gives, refuses, refuse, gives_past, gives_rest, gives_same, pass_given}
use Rattle.sequence.specs.Sending.{sending_by_lem}
use Rattle.model.specs.Client.{Held, Client}
use Rattle.packet.specs.Packet.{code_of, unnumbered, packet_class}
use Rattle.packet.specs.Laws.{number_last, number_full}
use Rattle.model.proofs.Deciding.{ahead_not, enqueue_chain}
use Rattle.model.specs.Model.{has_reply, send_request, enqueue_fds, take_closed, numbered, asked_of, place_of, filed, Filing, take_in, enqueue_packet, with_mode, discarding, discard_reply, Found, nothing, at, find, taken_by, poll_for_reply_or_error, checked_by, poll_check, replied_by, poll_for_reply, event_by, poll_for_event}
use Rattle.model.specs.Calls.{send, enqueue_fds_ask, enqueue, discard, poll, check, poll_reply, prepare, poll_event, take_closed_ask, Said, step, outcome}
use Rattle.model.specs.declared.ReplyFdKind.{ReplyFdKind}
use Rattle.model.specs.declared.DiscardMode.{DiscardMode}
use Rattle.model.specs.declared.Place.{Place}
use Rattle.honest.specs.Run.{Entry, took, note_sent, note_took, noted, Runs, start, call, Ordinary, Lands, held_as}
use Rattle.honest.specs.Rules.{Ruled, none, sends_one, takes_one}
use Rattle.honest.specs.Calls.{Still, Keeps, counted_as, Taking, Counted}

keeps_refuse : {A : Type 0} (c : Client) (b : Bool) (n : ℕ) (a : Answer (A × Client)) → Keeps c a → Keeps c (refuse b n a)
unfolding refuse
keeps_refuse c true n a k = tt
keeps_refuse c false n a k = k

keeps_choose : {A : Type 0} (c : Client) (b : Bool) (x y : Answer (A × Client)) → Keeps c x → Keeps c y → Keeps c (choose b x y)
unfolding choose
keeps_choose c true x y k l = k
keeps_choose c false x y k l = l

keeps_fds : (c : Client) (list : List ℕ) → Keeps c (enqueue_fds c list)
unfolding enqueue_fds
keeps_fds c list = keeps_refuse c _ 5 _ (refl, refl)

keeps_closed : (c : Client) (places : ℕ) → Keeps c (take_closed c places)
unfolding take_closed
keeps_closed c places = keeps_refuse c _ 8 _ (refl, refl)

still_choose : (c x : Client) (b : Bool) → Still c x → Still c (choose b x c)
unfolding choose
still_choose c x true k = k
still_choose c x false k = (refl, refl)

still_mode : (c : Client) (n : ℕ) (m : DiscardMode) → Still c (with_mode c n m)
unfolding with_mode
still_mode c n m = still_choose c _ _ (refl, refl)

still_discarding : (m : DiscardMode) (n : ℕ) (c : Client) → Still c (discarding m n c)
still_discarding DiscardMode.DiscardReply n c = (refl, refl)
still_discarding DiscardMode.DiscardReplyAndError n c = (refl, refl)

keeps_discard : (c : Client) (n : ℕ) (m : DiscardMode) → Keeps c (discard_reply c n m)
unfolding discard_reply
keeps_discard c n m =
    let a = still_mode c n m in
    let b = still_discarding m n (with_mode c n m) in
    (b.0 ∙ a.0, b.1 ∙ a.1)

keeps_taken : (c : Client) (bytes places : ℕ) (f : Found) → Keeps c (taken_by c bytes places f)
keeps_taken c bytes places nothing = (refl, refl)
keeps_taken c bytes places (at h l) = keeps_refuse c _ 8 _ (refl, refl)

keeps_checked : (c : Client) (n bytes : ℕ) (f : Found) → Keeps c (checked_by c n bytes f)
keeps_checked c n bytes nothing = (refl, refl)
keeps_checked c n bytes (at h l) = keeps_refuse c _ 8 _ (refl, refl)

keeps_replied : (c : Client) (bytes : ℕ) (f : Found) → Keeps c (replied_by c bytes f)
keeps_replied c bytes nothing = (refl, refl)
keeps_replied c bytes (at h l) = keeps_choose c _ _ _ (refl, refl) (keeps_refuse c _ 8 _ (refl, refl))

keeps_event : (c : Client) (bytes : ℕ) (l : List Held) → Keeps c (event_by c bytes l)
keeps_event c bytes [] = (refl, refl)
keeps_event c bytes (h ∷ l) = keeps_refuse c _ 8 _ (refl, refl)

keeps_poll : (c : Client) (n bytes places : ℕ) → Keeps c (poll_for_reply_or_error c n bytes places)
unfolding poll_for_reply_or_error
keeps_poll c n bytes places = keeps_taken c bytes places (find n c.replies)

keeps_check : (c : Client) (n bytes : ℕ) → Keeps c (poll_check c n bytes)
unfolding poll_check
keeps_check c n bytes = keeps_checked c n bytes (find n c.replies)

keeps_reply : (c : Client) (n bytes : ℕ) → Keeps c (poll_for_reply c n bytes)
unfolding poll_for_reply
keeps_reply c n bytes = keeps_replied c bytes (find n c.replies)

keeps_next : (c : Client) (bytes : ℕ) → Keeps c (poll_for_event c bytes)
unfolding poll_for_event
keeps_next c bytes = keeps_event c bytes c.events

-- ---- the run

abbrev RuledAt : Client → List Entry → Type 0
RuledAt c l = Ruled c.order c.numbers l

moved : (c c' : Client) (l : List Entry) → Still c c' → RuledAt c l → RuledAt c' l
moved c c' l s r = rw (s.0, s.1) r

ruled_kept : {A : Type 0} (f : A → Said) (c : Client) (l : List Entry) (a : Answer (A × Client)) → Keeps c a → RuledAt c l → RuledAt (outcome f c a).next l
ruled_kept f c l (gives x) k r = moved c x.1 l k r
ruled_kept f c l (refuses n) k r = r

-- a send follows the rule of sending
ruled_send : (f : ℕ → Said) (c : Client) (l : List Entry) (kind : ReplyFdKind) (a : Answer (ℕ × Client)) → a ≡ send_request c kind → RuledAt c l
    → RuledAt (outcome f c a).next (note_sent (has_reply kind) a l)
unfolding send_request note_sent
ruled_send f c l kind (gives x) e r =
    let g = pass_given _ _ e in
    rw (gives_same (gives_rest _ 5 _ g.2)) (sends_one (has_reply kind) g.0 (g.1 ∙ sending_by_lem _ _ _) r)
ruled_send f c l kind (refuses n) e r = r

pub taking : (c : Client) (p : List ℕ) (x : Filing × Client) → gives x ≡ enqueue_packet c p → Taking c p x
unfolding take_in
taking c p x e =
    let g = pass_given _ _ (gives_rest _ 2 _ (gives_rest _ 1 _ (e ∙ enqueue_chain c p))) in
    let h = gives_same (gives_rest _ 5 _ (gives_rest _ 4 _ (gives_rest _ 20 _ g.2))) in
    record { n = g.0; number_is = g.1; asked_is = gives_past _ 20 _ g.2; filing_is = ap (λ k. k.0) h; next_is = ap (λ k. k.1) h }

still_filed : (place : Place) (h : Held) (c : Client) → Still c (filed place h c)
still_filed Place.Replies h c = (refl, refl)
still_filed Place.Events h c = (refl, refl)
still_filed Place.Dropped h c = (refl, refl)

lands_filed : (place : Place) (h : Held) (c c' : Client) → c'.replies ≡ c.replies → c'.events ≡ c.events → Lands place h c (filed place h c')
lands_filed Place.Replies h c c' p q = (ap (λ l. l ++ (h ∷ [])) p, q)
lands_filed Place.Events h c c' p q = (p, ap (λ l. l ++ (h ∷ [])) q)
lands_filed Place.Dropped h c c' p q = (p, q)

module _ (c : Client) (p : List ℕ) (x : Filing × Client) (k : Taking c p x) where
  still_taken : Still (counted_as c p k.n) x.1
  still_taken =
      let s = still_filed (place_of (packet_class p) (asked_of c k.n)) (held_as c p k.n) (counted_as c p k.n) in
      (ap (λ y. y.order) k.next_is ∙ s.0, ap (λ y. y.numbers) k.next_is ∙ s.1)

  -- it lands in its list
  pub lands : Lands x.0.place (held_as c p k.n) c x.1
  unfolding numbered
  lands = rw (k.filing_is, k.next_is) (lands_filed (place_of (packet_class p) (asked_of c k.n)) (held_as c p k.n) c (counted_as c p k.n) refl refl)

  pub counted : unnumbered (code_of p) ≡ false → Counted c p x
  unfolding numbered choose
  counted h =
      let a : k.n ≡ x.0.number = ap (λ y. y.number) (sym k.filing_is) in
      record {
        order_is = still_taken.0;
        number_is = ap gives (sym a) ∙ k.number_is ∙ number_full c.order c.numbers.read p h;
        sent_is = omega (arith, ahead_not (code_of p) k.n c.numbers.written h k.asked_is);
        numbers_is =
            still_taken.1
            ∙ (λ i. record { written = c.numbers.written; expected = choose (h i) c.numbers.expected (max c.numbers.expected (a i)); read = a i });
      }

  -- and one that carries none leaves them.
  pub uncounted : unnumbered (code_of p) ≡ true → Still c x.1
  unfolding numbered choose
  uncounted h =
      let a : k.n ≡ c.numbers.read = gives_same (k.number_is ∙ number_last c.order c.numbers.read p h) in
      (still_taken.0, still_taken.1 ∙ (λ i. record { written = c.numbers.written; expected = choose (h i) c.numbers.expected (max c.numbers.expected (a i)); read = a i }))

ruled_packet : (f : Filing → Said) (c : Client) (l : List Entry) (t : ℕ) (p : List ℕ) (a : Answer (Filing × Client)) → a ≡ enqueue_packet c p → RuledAt c l
    → RuledAt (outcome f c a).next (note_took t p a l)
unfolding note_took choose
ruled_packet f c l t p (refuses n) e r = r
ruled_packet f c l t p (gives x) e r = go (unnumbered (code_of p)) refl
  where
    go : (b : Bool) → unnumbered (code_of p) ≡ b → RuledAt x.1 (choose b l (took t p x.0 ∷ l))
    go true h = moved c x.1 l (uncounted c p x (taking c p x e) h) r
    go false h =
        let k = counted c p x (taking c p x e) h in
        rw (k.order_is, k.numbers_is) (takes_one t p x.0 k.number_is k.sent_is r)

-- THE LINK: every run of calls keeps the rules.
pub runs_ruled : {c : Client} {l : List Entry} → Runs c l → Ruled c.order c.numbers l
unfolding step noted
runs_ruled (start o k s) = none
runs_ruled (call {c = c} {log = l} (send kind) t r) = ruled_send _ c l kind (send_request c kind) refl (runs_ruled r)
runs_ruled (call {c = c} {log = l} (enqueue_fds_ask list) t r) = ruled_kept _ c l (enqueue_fds c list) (keeps_fds c list) (runs_ruled r)
runs_ruled (call {c = c} {log = l} (enqueue p) t r) = ruled_packet _ c l t p (enqueue_packet c p) refl (runs_ruled r)
runs_ruled (call {c = c} {log = l} (discard n m) t r) = ruled_kept _ c l (discard_reply c n m) (keeps_discard c n m) (runs_ruled r)
runs_ruled (call {c = c} {log = l} (poll n bytes places) t r) = ruled_kept _ c l (poll_for_reply_or_error c n bytes places) (keeps_poll c n bytes places) (runs_ruled r)
runs_ruled (call {c = c} {log = l} (check n bytes) t r) = ruled_kept _ c l (poll_check c n bytes) (keeps_check c n bytes) (runs_ruled r)
runs_ruled (call {c = c} {log = l} (poll_reply n bytes) t r) = ruled_kept _ c l (poll_for_reply c n bytes) (keeps_reply c n bytes) (runs_ruled r)
runs_ruled (call {c = c} {log = l} (prepare n) t r) = runs_ruled r
runs_ruled (call {c = c} {log = l} (poll_event bytes) t r) = ruled_kept _ c l (poll_for_event c bytes) (keeps_next c bytes) (runs_ruled r)
runs_ruled (call {c = c} {log = l} (take_closed_ask places) t r) = ruled_kept _ c l (take_closed c places) (keeps_closed c places) (runs_ruled r)

-- a refusal that is one of four
pub one_of : {A : Type 0} (b1 b2 b4 b5 : Bool) (x : A) (n : ℕ) → refuse b1 1 (refuse b2 2 (refuse b4 4 (refuse b5 5 (gives x)))) ≡ refuses n → Ordinary n
unfolding refuse
one_of true b2 b4 b5 x n e = inl (cc)
one_of false true b4 b5 x n e = inr (inl (cc))
one_of false false true b5 x n e = inr (inr (inl (cc)))
one_of false false false true x n e = inr (inr (inr (cc)))
one_of false false false false x n e = absurd (let z : ◌≡◌ {A = ℕ} 0 1 = cc in omega arith)
