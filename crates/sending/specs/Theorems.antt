-- The steps in the model's terms, and the states that they leave. Assumes nothing.
use Rattle.std.specs.Prelude.{◌≡◌, Bool, true, false, List, [], ◌∷◌, ◌++◌, ℕ, ◌+◌, ◌-◌, ◌≤◌, ◌<◌, leb, ltb}
use Rattle.std.proofs.Math.Path.{refl, ap, subst}
use Rattle.std.proofs.Common.{sym, ◌∙◌, arith}
use Rattle.std.proofs.Math.ListN.{length}
use borrow.Author.Tests.{leb-false, ltb-false}
use Rattle.octets.specs.Logic.{choose}
use Rattle.refusal.specs.Answer.{gives, refuse, pass, gives_past, gives_rest, gives_same, pass_given, pass_agree, pass_refuse, pass_pass}
use Rattle.sequence.specs.Numbering.{last_number}
use Rattle.sequence.specs.Sending.{Numbers, sending}
use Rattle.requests.specs.Room.{put_request, outstanding, legals}
use Rattle.requests.specs.Theorems.{outstanding_send, legals_send, sized_is, sized_put}
use Rattle.descriptors.specs.Room as Slots
use Rattle.descriptors.specs.Theorems as Fds
use Rattle.descriptors.specs.Room.{most_descriptors}
use Rattle.model.specs.Client.{Client, set_numbers, set_outstanding, set_waiting, set_closing}
use Rattle.model.specs.Model.{has_reply, joining, send_request, enqueue_fds, take_closed}
use Rattle.held.specs.Reading as Store
use Rattle.held.specs.Moves.{left}
use Rattle.held.specs.Theorems as Held
use Rattle.model.specs.Reading.{Rooms, rooms, count, slots_of, with_descriptors, reads}
use Rattle.model.specs.ReadingLaws.{length_out, inside_read, length_close}
use Rattle.model.specs.Moved.{moved_state, moved_read, moved_sound}
use Rattle.model.specs.Promise.{Done, model_of, model_pass, model_refuse}
use Rattle.model.specs.Sound.{Sound, room_there, slots_there}
use Rattle.model.specs.declared.Connection.{Connection}
use Rattle.model.specs.declared.ReplyFdKind.{ReplyFdKind}
use Rattle.sending.specs.Send.{sendable, sent_done, send_exact}
use Rattle.sending.specs.Fds.{enqueue_fds_exact, close_exact}

-- ---- sending

-- what the rule of sending gives
pub record Given (w e : ℕ) (n : Numbers) : Type 0 where
  pub number : n.number ≡ w + 1
  pub most : n.number ≤ last_number
  pub expected : e ≤ last_number → n.expected ≤ last_number

either_most : (b : Bool) (x y z m : ℕ) → z ≡ choose b x y → x ≤ m → y ≤ m → z ≤ m
unfolding choose
either_most true x y z m e p q = omega arith
either_most false x y z m e p q = omega arith

sending_gives : (w e : ℕ) (hr : Bool) (n : Numbers) → gives n ≡ sending w e hr → Given w e n
unfolding sending
sending_gives w e hr n q =
    let p = gives_rest _ _ _ (gives_rest _ _ _ q) in
    let l : w < last_number = leb-false _ _ (gives_past _ _ _ q) in
    let m : n ≡ record { number = w + 1; expected = choose hr (w + 1) e } = cc in
    let x : n.number ≡ w + 1 = ap (λ (k : Numbers). k.number) m in
    record { number = x; most = omega arith; expected = λ h. either_most hr (w + 1) e n.expected last_number (ap (λ (k : Numbers). k.expected) m) (omega arith) h }

-- what may be sent, in the model's terms: the request has its number and joins
abbrev pub sent_client : Client → ReplyFdKind → Numbers → Client
sent_client m kind n = set_outstanding (set_numbers m (record { written = n.number; expected = n.expected; read = m.numbers.read })) (m.outstanding ++ (joining kind ∷ []))

module _ (c : Connection) (r : Rooms) (S : Sound c r) (kind : ReplyFdKind) where
  -- WHAT WOULD BE SENT is what the model says of a send: its refusal, or the number with the state after it.
  pub sendable_model : pass (sendable c kind) (λ n. gives (n.number, sent_client (reads c r) kind n)) ≡ send_request (reads c r) kind
  unfolding sendable send_request reads pass
  sendable_model =
      pass_pass (sending c.written c.expected (has_reply kind)) _ _
      ∙ pass_agree (sending c.written c.expected (has_reply kind)) _ _
      (λ n e. pass_refuse (leb c.capacity (count c)) 5 (gives n) _ ∙ ap (λ (l : ℕ). refuse (leb c.capacity l) 5 (gives (n.number, sent_client (reads c r) kind n))) (sym (length_out c r S)))

  -- where it may be sent the rule gave its numbers, and the room has a place
  module _ (n : Numbers) (e : gives n ≡ sendable c kind) where
    rule_gave : Given c.written c.expected n
    unfolding sendable
    rule_gave =
        let p = pass_given (sending c.written c.expected (has_reply kind)) _ e in
        sending_gives c.written c.expected (has_reply kind) n (gives_rest _ _ _ p.2 ∙ p.1)

    place_left : count c < c.capacity
    unfolding sendable
    place_left = leb-false _ _ (gives_past _ _ _ (pass_given (sending c.written c.expected (has_reply kind)) _ e).2)

    number_next : n.number ≡ c.first + count c
    number_next = omega (arith, rule_gave.number, S.numbers.first_most)

    count_next : n.number + 1 - c.first ≡ count c + 1
    count_next = omega (arith, rule_gave.number, S.numbers.first_most)

    -- the state after it, as it is read,
    sent_read : reads (sent_done c r kind n).state (sent_done c r kind n).left ≡ sent_client (reads c r) kind n
    unfolding reads
    sent_read =
        let z = (sized_is c.capacity r.requests).0 S.requests in
        ap (set_outstanding (set_numbers (reads c r) (record { written = n.number; expected = n.expected; read = c.read })))
        ((λ k. outstanding (put_request r.requests (number_next k) (joining kind)) c.first (count_next k))
        ∙ outstanding_send r.requests c.first (count c) (joining kind) (omega (arith, z.holds, place_left)))

    -- and that it is sound
    sent_sound : Sound (sent_done c r kind n).state (sent_done c r kind n).left
    sent_sound =
        let N = S.numbers in
        let g = rule_gave in
        record {
          order = S.order;
          requests = sized_put r.requests n.number (joining kind) c.capacity ∙ S.requests;
          store = S.store;
          numbers = record {
            store_least = N.store_least;
            store_most = N.store_most;
            written_most = g.most;
            expected_most = g.expected N.expected_most;
            read_most = N.read_most;
            first_least = N.first_least;
            first_most = omega (arith, g.number, N.first_most);
            count_most = omega (arith, g.number, N.first_most, place_left);
          };
          legal_bytes = (λ k. legals (put_request r.requests (number_next k) (joining kind)) c.first (count_next k)) ∙ legals_send r.requests c.first (count c) S.legal_bytes (joining kind) (room_there c r S);
          slots = S.slots;
          held = S.held;
          descriptors = S.descriptors;
        }

  -- SENDING is the model's.
  pub send_model : model_of (send_exact c r kind) ≡ send_request (reads c r) kind
  unfolding send_exact model_of
  send_model =
      model_pass (sendable c kind) _
      ∙ pass_agree (sendable c kind) _ _ (λ n e. ap (λ (x : Client). gives (n.number, x)) (sent_read n e))
      ∙ sendable_model

  -- The state that a send leaves is sound.
  pub send_sound : (d : Done ℕ) → gives d ≡ send_exact c r kind → Sound d.state d.left
  unfolding send_exact
  send_sound d e =
      let p = pass_given (sendable c kind) _ e in
      subst (λ (x : Done ℕ). Sound x.state x.left) (gives_same (sym p.2)) (sent_sound p.0 p.1)

-- ---- descriptors

module _ (c : Connection) (r : Rooms) (S : Sound c r) where
  -- descriptors move alone: as that is read, and that it is sound
  counted_read : (d : Slots.Room) (toClose wait : List ℕ) → Slots.Lists d toClose (Slots.holding (slots_of c r)) wait
      → reads (moved_state c c.window d.counts) (rooms r.requests r.store d.slots) ≡ set_closing (set_waiting (reads c r) wait) toClose
  unfolding reads
  counted_read d toClose wait l =
      moved_read c r (left c.window r.store) d _ _ _ _ (ap (with_descriptors (Store.replies c.window r.store)) l.holding_is) refl l.waiting_is l.closing_is

  counted_sound : (d : Slots.Room) → Slots.Sound d → d.counts.held ≡ c.counts.held → Sound (moved_state c c.window d.counts) (rooms r.requests r.store d.slots)
  counted_sound d D h =
      moved_sound c r S (left c.window r.store) d refl ((Held.sound_exactly c.read c.window r.store).0 S.held) D (S.descriptors ∙ sym h)

  kept_closing : {wait : List ℕ} → set_closing (set_waiting (reads c r) wait) (Slots.closing (slots_of c r)) ≡ set_waiting (reads c r) wait
  unfolding reads
  kept_closing = refl

  kept_waiting : {toClose : List ℕ} → set_closing (set_waiting (reads c r) (Slots.waiting (slots_of c r))) toClose ≡ set_closing (reads c r) toClose
  unfolding reads
  kept_waiting = refl

  module _ (list : List ℕ) where
    enqueue_held : (Slots.enqueue list (slots_of c r)).counts.held ≡ c.counts.held
    unfolding Slots.enqueue
    enqueue_held = refl

    -- DESCRIPTORS that come in are the model's,
    pub enqueue_model : model_of (enqueue_fds_exact c r list) ≡ enqueue_fds (reads c r) list
    unfolding enqueue_fds_exact enqueue_fds model_of reads
    enqueue_model =
        model_refuse (ltb most_descriptors (Slots.total c.counts + length list)) 5 _
        ∙ ap (λ (x : Client). refuse (ltb most_descriptors (Slots.total c.counts + length list)) 5 (gives (tt, x)))
        (counted_read (Slots.enqueue list (slots_of c r)) _ _ (Fds.enqueue_lists (slots_of c r) (slots_there c r S) list) ∙ kept_closing)
        ∙ ap (λ (n : ℕ). refuse (ltb most_descriptors (n + length list)) 5 (gives (tt, set_waiting (reads c r) ((reads c r).waiting ++ list)))) (sym (inside_read c r S))

    -- and leave a sound state.
    pub enqueue_sound : (d : Done Unit) → gives d ≡ enqueue_fds_exact c r list → Sound d.state d.left
    unfolding enqueue_fds_exact
    enqueue_sound d e =
        let h : Slots.total c.counts + length list ≤ most_descriptors = ltb-false _ _ (gives_past _ _ _ e) in
        subst (λ (x : Done Unit). Sound x.state x.left) (gives_same (sym (gives_rest _ _ _ e)))
        (counted_sound (Slots.enqueue list (slots_of c r)) (Fds.enqueue_sound (slots_of c r) (slots_there c r S) list h) enqueue_held)

  close_held_lem : (Slots.take_closed (slots_of c r)).counts.held ≡ c.counts.held
  unfolding Slots.take_closed
  close_held_lem = refl

  module _ (places : ℕ) where
    -- THE CLOSE LIST that goes out is the model's,
    pub close_model : model_of (close_exact c r places) ≡ take_closed (reads c r) places
    unfolding close_exact take_closed model_of reads
    close_model =
        model_refuse (ltb places c.counts.closed) 8 _
        ∙ ap (λ (x : Client). refuse (ltb places c.counts.closed) 8 (gives ((reads c r).closing, x)))
        (counted_read (Slots.take_closed (slots_of c r)) _ _ (Fds.take_closed_lists (slots_of c r) (slots_there c r S)) ∙ kept_waiting)
        ∙ ap (λ (n : ℕ). refuse (ltb places n) 8 (gives ((reads c r).closing, set_closing (reads c r) []))) (sym (length_close c r S))

    -- and leaves a sound state.
    pub close_sound : (d : Done (List ℕ)) → gives d ≡ close_exact c r places → Sound d.state d.left
    unfolding close_exact
    close_sound d e =
        subst (λ (x : Done (List ℕ)). Sound x.state x.left) (gives_same (sym (gives_rest _ _ _ e)))
        (counted_sound (Slots.take_closed (slots_of c r)) (Fds.take_closed_sound (slots_of c r) (slots_there c r S)) close_held_lem)
