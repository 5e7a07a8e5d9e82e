-- `enqueue_packets` is a row of single `enqueue_packet`s: so what holds of each of these holds of it. Assumes nothing.
use mathlib.Core.List.{List}
use Rattle.std.specs.Prelude.{◌≡◌, ℕ, ◌<◌, length, get_or}
use Rattle.std.proofs.Common.{sym, ◌∙◌}
use Rattle.std.proofs.Math.Path.{ap, subst}
use Rattle.refusal.specs.Answer.{Answer, gives}
use Rattle.packet_reader.specs.Frame.{cut_packets}
use Rattle.intake.specs.Exact.{enqueue_exact}
use Rattle.intake.specs.Theorems.{enqueue_model, enqueue_sound}
use Rattle.model.specs.Model.{Filing, enqueue_packet}
use Rattle.model.specs.Reading.{Rooms, reads}
use Rattle.model.specs.Promise.{Done, answer_of, rooms_of, model_of, guarded, guarded_on, exact_given, promise_sound, same}
use Rattle.model.specs.Sound.{Sound, is_sound}
use Rattle.model.specs.Batch.{goes, Many, Site, site, notes}
use Rattle.model.specs.BatchLaws.{many_row}
use Rattle.model.specs.Feed.{Stopped, Took, ShownFed, shown_fed}
use Rattle.model.specs.declared.Connection.{Connection}
use Rattle.batch.specs.Feed.{stop_at, enqueue_packets, packet_turn, row, feed_exact}
use Rattle.batch.specs.FeedLaws.{Byte, packets_bytes, took_goes, feed_model}
use Rattle.connection.specs.Calls.{Enqueues, EnqueuesMany}
use Rattle.honest.specs.Run.{Entry, note_took}
use Rattle.honest.specs.Public.{state_of}
use Rattle.session.specs.Rows.{Carried}
use Rattle.session.specs.Noting.{Noting, noting, next, note_packet, took_of, note_fed}

-- P goes with the state through each `enqueue_packet` that takes its packet, t being the packet's true number,
module _ (P : Connection → Rooms → List Entry → Type 1)
    (carries : (c : Connection) (r : Rooms) (l : List Entry) → Sound c r → P c r l → (t : ℕ) (p : List ℕ) → Byte p → (f : Filing) (c' : Connection) (r' : Rooms) → Enqueues c r p (gives (f, c')) r' → P c' r' (note_took t p (gives (f, c')) l)) where
  abbrev Along : Site → Noting → Type 1
  Along s n = Carried (λ c r. P c r n.log) s

  packet_carries : (s : Site) (n : Noting) → Along s n → (p : List ℕ) → Byte p → (v : Took) (s' : Site) → goes v s' ≡ packet_turn s p → Along s' (note_packet p v n)
  unfolding note_packet note_took
  packet_carries s n k p b v s' q =
      let e : Answer (Done Filing) = enqueue_exact s.state s.left p in
      let d : Done Filing = record { value = v.filing; state = s'.state; left = s'.left } in
      let g : gives d ≡ e = (took_goes (length p) e v s' q).1 in
      let h : Enqueues s.state s.left p (gives (v.filing, s'.state)) s'.left =
      promise_sound same e (λ m. enqueue_packet m p) s.state s.left (λ S. enqueue_model s.state s.left S p b) (gives (v.filing, s'.state)) s'.left (is_sound s.state s.left k.sound)
      (exact_given same e s.left d g) in
      record {
        sound = enqueue_sound s.state s.left k.sound p b d g;
        held = carries s.state s.left n.log k.sound k.held (next n.numbers) p b v.filing s'.state s'.left h;
      }

  -- and so through `enqueue_packets`, of which ts are the true numbers.
  pub feed_row : (c : Connection) (r : Rooms) (l : List Entry) → Sound c r → P c r l → (ts bytes : List ℕ) → ((i : ℕ) → get_or bytes i 0 < 256) → (a : Answer (ShownFed × Connection)) (r' : Rooms) → EnqueuesMany c r bytes a r'
      → P (state_of a c) r' (note_fed ts (reads c r) bytes a l)
  unfolding answer_of rooms_of model_of feed_exact state_of note_fed took_of reads
  feed_row c r l S p ts bytes byte a r' h =
      let g : guarded c r (feed_exact c r bytes) ≡ feed_exact c r bytes = guarded_on c r (feed_exact c r bytes) (is_sound c r S) in
      let whole : List (List ℕ) = (cut_packets c.order bytes).packets in
      let x : Many Took Stopped Site = row c.order (site c r) (cut_packets c.order bytes) in
      let q : Along x.end (notes note_packet whole x.values (noting ts l)) =
      many_row packet_turn Along note_packet Byte packet_carries (stop_at c.order (cut_packets c.order bytes).left) (site c r) whole (noting ts l) (record { sound = S; held = p }) (packets_bytes c.order bytes byte) in
      let v : x.values ≡ took_of (enqueue_packets (reads c r) bytes) = ap took_of (feed_model c r S bytes byte) in
      let w : P x.end.state x.end.left (notes note_packet whole (took_of (enqueue_packets (reads c r) bytes)) (noting ts l)).log = subst (λ (y : List Took). P x.end.state x.end.left (notes note_packet whole y (noting ts l)).log) v q.held in
      subst (λ (y : Answer (ShownFed × Connection)). P (state_of y c) r' (note_fed ts (reads c r) bytes y l)) (sym (h.exact.answers ∙ ap (answer_of shown_fed) g))
      (subst (λ (y : Rooms). P x.end.state y (notes note_packet whole (took_of (enqueue_packets (reads c r) bytes)) (noting ts l)).log) (sym (h.exact.leaves ∙ ap (λ y. rooms_of y r) g)) w)
