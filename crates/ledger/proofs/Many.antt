-- Laws of `specs/Many.antt`. Assumes nothing.
use Rattle.std.specs.Prelude.{Bool, true, false, List, [], ◌∷◌, ◌++◌, ◌≡◌, refl, ℕ, ◌+◌, ltb, length}
use Rattle.std.proofs.Common.{sym, ap, ◌∙◌, arith}
use Rattle.octets.specs.Logic.{choose}
use Rattle.refusal.specs.Answer.{Answer, gives, refuses, gives_rest, gives_same}
use Rattle.model.specs.Client.{Held, Client, set_events}
use Rattle.model.specs.Model.{Taken, none, packet, Filing, send_request, event_by, poll_for_event}
use Rattle.model.specs.Promise.{Done, answer_of, rooms_of, output_of, model_of, guarded}
use Rattle.model.specs.Reading.{Rooms, reads}
use Rattle.model.specs.Batch.{Turn, goes, stops, Many, onward, on_turn, many, Stop, ended, refused, meaningless, model_turn}
use Rattle.model.specs.BatchLaws.{goes_one}
use Rattle.model.specs.Feed.{Took, model_took}
use Rattle.model.specs.SendRequests.{kinds, kind_of, send_turn, sendings, send_requests, Sendings, ShownSendings, shown_sendings}
use Rattle.model.specs.PollForEvents.{turns, Lent, lent, room_for, event_turn, Handings, or_refused, handed, poll_for_events, ShownHandings, shown_handings, packets_of_handings, marks_of_handings}
use Rattle.model.specs.declared.Connection.{Connection}
use Rattle.model.specs.declared.ReplyFdKind.{ReplyFdKind}
use Rattle.batch.specs.Theorems.{handing_gave}
use Rattle.connection.specs.Calls.{SendsMany, PollsEvents}
use Rattle.ledger.specs.RoomLaws.{sent_on}
use Rattle.ledger.proofs.RoomLaws.{send_row}
use Rattle.ledger.specs.Promised.{promise_gave}
use Rattle.ledger.specs.Many.{HandsFirst, InOrder, counting, Consecutive}

-- a turn that goes on is something given
model_gives : {A : Type 0} (e : Answer (A × Client)) (a : A) (c : Client) → goes a c ≡ model_turn e → gives (a, c) ≡ e
unfolding model_turn
model_gives (gives x) a c q =
    let z = goes_one q in
    (λ k. gives (z.0 k, z.1 k))
model_gives (refuses n) a c q = absurd (let z : ◌≡◌ {A = ℕ} 0 1 = cc in omega arith)

pub took_given : (n : ℕ) (e : Answer (Filing × Client)) (v : Took) (c : Client) → goes v c ≡ model_took n e → gives (v.filing, c) ≡ e
unfolding model_took
took_given n (gives x) v c q =
    let z = goes_one q in
    (λ k. gives ((z.0 k).filing, z.1 k))
took_given n (refuses k) v c q = absurd (let z : ◌≡◌ {A = ℕ} 0 1 = cc in omega arith)

-- ---- events

-- a single poll takes the first event and nothing else
taken_first : (c : Client) (room : ℕ) (h : Held) (c' : Client) → gives (packet h, c') ≡ poll_for_event c room → (c.events ≡ h ∷ c'.events) × (c' ≡ set_events c c'.events)
unfolding poll_for_event
taken_first c room h c' e = go c.events refl e
  where
    go : (l : List Held) → c.events ≡ l → gives (packet h, c') ≡ event_by c room l → (c.events ≡ h ∷ c'.events) × (c' ≡ set_events c c'.events)
    go [] i q =
        let w : packet h ≡ none = ap (λ (v : Taken × Client). v.0) (gives_same q) in
        absurd (let z : ◌≡◌ {A = ℕ} 0 1 = cc in omega arith)
    go (x ∷ l) i q =
        let w : ◌≡◌ {A = Taken × Client} (packet h, c') (packet x, set_events c l) = gives_same (gives_rest _ _ _ q) in
        let p : packet h ≡ packet x = ap (λ (v : Taken × Client). v.0) w in
        let a : h ≡ x = cc in
        let b : c' ≡ set_events c l = ap (λ (v : Taken × Client). v.1) w in
        let d : c'.events ≡ l = ap (λ (y : Client). y.events) b in
        (i ∙ (λ k. sym a k ∷ sym d k), b ∙ ap (set_events c) (sym d))

pub event_given : (t : Lent Client) (b : Bool) (h : Held) (t' : Lent Client) → goes h t' ≡ event_turn t b → gives (packet h, t'.at) ≡ poll_for_event t.at (room_for b t.room)
unfolding event_turn
event_given t b h t' q = model_gives _ (packet h) t'.at (handing_gave t.room _ h t' q)

row_first : (t : Lent Client) (xs : List Bool) → HandsFirst t.at (many event_turn ended t xs).values (many event_turn ended t xs).end.at
unfolding many on_turn
row_first t [] = record { in_order = refl; all_else = refl }
row_first t (b ∷ xs) = go (event_turn t b) refl (λ h t' q. row_first t' xs)
  where
    go : (y : Turn Held Stop (Lent Client)) → y ≡ event_turn t b
        → ((h : Held) (t' : Lent Client) → goes h t' ≡ event_turn t b → HandsFirst t'.at (many event_turn ended t' xs).values (many event_turn ended t' xs).end.at)
        → HandsFirst t.at (on_turn (λ a s'. onward (a ∷ []) (many event_turn ended s' xs)) (λ w. record { values = []; stopped = w; end = t }) y).values
        (on_turn (λ a s'. onward (a ∷ []) (many event_turn ended s' xs)) (λ w. record { values = []; stopped = w; end = t }) y).end.at
    go (goes h t') q rest =
        let r = rest h t' q in
        let z = taken_first t.at (room_for b t.room) h t'.at (event_given t b h t' q) in
        record {
          in_order = z.0 ∙ ap (λ (l : List Held). h ∷ l) r.in_order;
          all_else = r.all_else ∙ ap (λ (y : Client). set_events y (many event_turn ended t' xs).end.at.events) z.1;
        }
    go (stops w) q rest = record { in_order = refl; all_else = refl }

pub handed_gives : (y : Many Held Stop (Lent Client)) (x : Handings) (c : Client) → handed y ≡ gives (x, c) → (y.values ≡ x.events) × (y.end.at ≡ c)
unfolding handed or_refused
handed_gives y x c e = go y.values y.stopped e
  where
    both_are : ◌≡◌ {A = Answer (Handings × Client)} (gives (record { events = y.values; stopped = y.stopped }, y.end.at)) (gives (x, c)) → (y.values ≡ x.events) × (y.end.at ≡ c)
    both_are q =
        let z : ◌≡◌ {A = Handings × Client} (record { events = y.values; stopped = y.stopped }, y.end.at) (x, c) = gives_same q in
        (ap (λ (v : Handings × Client). v.0.events) z, ap (λ (v : Handings × Client). v.1) z)

    go : (vs : List Held) (w : Stop) → or_refused {B = Handings × Client} vs w (gives (record { events = y.values; stopped = y.stopped }, y.end.at)) ≡ gives (x, c) → (y.values ≡ x.events) × (y.end.at ≡ c)
    go [] ended q = both_are q
    go [] (refused n) q = absurd (let z : ◌≡◌ {A = ℕ} 0 1 = cc in omega arith)
    go [] meaningless q = both_are q
    go (h ∷ vs) w q = both_are q

pub events_first : (c : Client) (room marks : ℕ) (x : Handings) (c' : Client) → poll_for_events c room marks ≡ gives (x, c') → HandsFirst c x.events c'
unfolding poll_for_events
events_first c room marks x c' e =
    let z = handed_gives (many event_turn ended (lent c room) (turns marks)) x c' e in
    let r = row_first (lent c room) (turns marks) in
    record {
      in_order = r.in_order ∙ (λ k. z.0 k ++ (z.1 k).events);
      all_else = sym z.1 ∙ r.all_else ∙ (λ k. set_events c (z.1 k).events);
    }

pub events_in_order : (c : Connection) (r : Rooms) (out marks : List ℕ) (v : ShownHandings) (c' : Connection) (r' : Rooms) (out' marks' : List ℕ) → PollsEvents c r out marks (gives (v, c')) r' out' marks' → InOrder c r out marks v c' r' out' marks'
unfolding answer_of rooms_of output_of model_of guarded
events_in_order c r out marks v c' r' out' marks' h = go (guarded c r _) h.packets.promise.exact.answers h.packets.promise.exact.leaves h.packets.promise.model h.packets.output h.marked
  where
    go : (x : Answer (Done Handings)) → gives (v, c') ≡ answer_of shown_handings x → r' ≡ rooms_of x r → model_of x ≡ guarded c r (poll_for_events (reads c r) (length out) (length marks)) → out' ≡ output_of packets_of_handings x out
        → marks' ≡ output_of marks_of_handings x marks → InOrder c r out marks v c' r' out' marks'
    go (gives d) a l m o p =
        let w : ◌≡◌ {A = ShownHandings × Connection} (v, c') (shown_handings d.value, d.state) = gives_same a in
        let k : poll_for_events (reads c r) (length out) (length marks) ≡ gives (d.value, reads c' r') =
        sym (gives_rest _ 9 _ m) ∙ (λ i. gives (d.value, reads (sym (ap (λ (y : ShownHandings × Connection). y.1) w) i) (sym l i))) in
        record {
          events = d.value.events;
          first = events_first (reads c r) (length out) (length marks) d.value (reads c' r') k;
          count = ap (λ (y : ShownHandings × Connection). y.0.count) w;
          bytes = ap (λ (y : ShownHandings × Connection). y.0.bytes) w;
          packets = o;
          marked = p;
        }
    go (refuses n) a l m o p = absurd (let z : ◌≡◌ {A = ℕ} 0 1 = cc in omega arith)

-- a single send takes the next number
sent_next : (c : Client) (kind : ReplyFdKind) (n : ℕ) (c' : Client) → gives (n, c') ≡ send_request c kind → (n ≡ c.numbers.written + 1) × (c'.numbers.written ≡ c.numbers.written + 1)
sent_next c kind n c' e =
    let w : ◌≡◌ {A = ℕ × Client} (n, c') (c.numbers.written + 1, sent_on c kind) = gives_same (gives_rest _ 5 _ (gives_rest _ 6 _ (gives_rest _ 3 _ (e ∙ send_row c kind)))) in
    (ap (λ (v : ℕ × Client). v.0) w, ap (λ (v : ℕ × Client). v.1.numbers.written) w)

pub send_given : (c : Client) (byte n : ℕ) (c' : Client) → goes n c' ≡ send_turn c byte → gives (n, c') ≡ send_request c (kind_of byte)
unfolding send_turn choose
send_given c byte n c' e = go (ltb byte kinds) e
  where
    go : (b : Bool) → goes n c' ≡ choose b (model_turn (send_request c (kind_of byte))) (stops meaningless) → gives (n, c') ≡ send_request c (kind_of byte)
    go true q = model_gives _ n c' q
    go false q = absurd (let z : ◌≡◌ {A = ℕ} 0 1 = cc in omega arith)

row_next : (c : Client) (bytes : List ℕ) → Consecutive c (many send_turn ended c bytes).values (many send_turn ended c bytes).end
unfolding many on_turn counting
row_next c [] = record { counted = refl; written = omega arith }
row_next c (b ∷ bytes) = go (send_turn c b) refl (λ c'. row_next c' bytes)
  where
    go : (y : Turn ℕ Stop Client) → y ≡ send_turn c b → ((c' : Client) → Consecutive c' (many send_turn ended c' bytes).values (many send_turn ended c' bytes).end)
        → Consecutive c (on_turn (λ a s'. onward (a ∷ []) (many send_turn ended s' bytes)) (λ w. record { values = []; stopped = w; end = c }) y).values
        (on_turn (λ a s'. onward (a ∷ []) (many send_turn ended s' bytes)) (λ w. record { values = []; stopped = w; end = c }) y).end
    go (goes n c') q rest =
        let r = rest c' in
        let z = sent_next c (kind_of b) n c' (send_given c b n c' q) in
        record {
          counted = (λ k. z.0 k ∷ r.counted k) ∙ ap (λ (m : ℕ). (c.numbers.written + 1) ∷ counting (m + 1) (length (many send_turn ended c' bytes).values)) z.1;
          written = omega (arith, r.written, z.1);
        }
    go (stops w) q rest = record { counted = refl; written = omega arith }

pub sends_next : (c : Client) (bytes : List ℕ) (x : Sendings) (c' : Client) → send_requests c bytes ≡ gives (x, c') → Consecutive c x.numbers c'
unfolding send_requests
sends_next c bytes x c' e =
    let y : Many ℕ Stop Client = many send_turn ended c bytes in
    let z : ◌≡◌ {A = Sendings × Client} (sendings y.values y.stopped y.end, y.end) (x, c') = gives_same e in
    let r = row_next c bytes in
    let a : y.values ≡ x.numbers = ap (λ (v : Sendings × Client). v.0.numbers) z in
    let b : y.end ≡ c' = ap (λ (v : Sendings × Client). v.1) z in
    record {
      counted = sym a ∙ r.counted ∙ ap (λ (l : List ℕ). counting (c.numbers.written + 1) (length l)) a;
      written = ap (λ (k : Client). k.numbers.written) (sym b) ∙ r.written ∙ ap (λ (l : List ℕ). c.numbers.written + length l) a;
    }

-- the last number that the model says is that of the state
last_is : (c : Client) (bytes : List ℕ) (x : Sendings) (c' : Client) → send_requests c bytes ≡ gives (x, c') → x.last ≡ c'.numbers.written
unfolding send_requests
last_is c bytes x c' e =
    let y : Many ℕ Stop Client = many send_turn ended c bytes in
    let z : ◌≡◌ {A = Sendings × Client} (sendings y.values y.stopped y.end, y.end) (x, c') = gives_same e in
    sym (ap (λ (v : Sendings × Client). v.0.last) z) ∙ ap (λ (v : Sendings × Client). v.1.numbers.written) z

pub sends_count : (c : Connection) (r : Rooms) (bytes : List ℕ) (v : ShownSendings) (c' : Connection) (r' : Rooms) → SendsMany c r bytes (gives (v, c')) r' → (v.last ≡ c.written + v.count) × (c'.written ≡ v.last)
unfolding reads
sends_count c r bytes v c' r' h =
    let g = promise_gave shown_sendings _ (λ m. send_requests m bytes) c r v c' r' h in
    let n = sends_next (reads c r) bytes g.value (reads c' r') g.model in
    let l : g.value.last ≡ c'.written = last_is (reads c r) bytes g.value (reads c' r') g.model in
    let a : v.last ≡ g.value.last = ap (λ (y : ShownSendings). y.last) g.shown in
    let b : v.count ≡ length g.value.numbers = ap (λ (y : ShownSendings). y.count) g.shown in
    let w : c'.written ≡ c.written + length g.value.numbers = n.written in
    (omega arith, omega arith)
