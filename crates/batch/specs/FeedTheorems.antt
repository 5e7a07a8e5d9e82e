-- What is certain of the packets of a run that are taken in behind one test. Assumes nothing.
use Rattle.std.specs.Prelude.{◌≡◌, refl, Bool, List, [], ◌∷◌, ℕ, zero, suc, ◌+◌, ◌≤◌, ltb, eqb, length, take}
use Rattle.std.proofs.Common.{sym, ap, ◌∙◌, arith, length-append, length-take-le, le-ltb}
use Rattle.octets.specs.Logic.{choose}
use Rattle.refusal.specs.Answer.{Answer, gives, refuses, gives_same}
use Rattle.packet_reader.specs.Frame.{aim, Cut, cut_packets}
use Rattle.packet_reader.specs.CutLaws.{aim_held}
use Rattle.packet_reader.specs.Reader.{most_buffer, fresh}
use Rattle.packet_reader.specs.Sound as Reader
use Rattle.packet_reader.specs.Stream.{joined, Feeds}
use Rattle.packet_reader.specs.Theorems.{stream, fed_sound}
use Rattle.packet_reader.specs.Front.{packets_whole}
use Rattle.packet_reader.specs.declared.PacketReader.{PacketReader}
use Rattle.model.specs.Client.{Client}
use Rattle.model.specs.Model.{Filing, enqueue_packet}
use Rattle.model.specs.Batch.{Turn, goes, stops, onward, on_turn, many, model_many}
use Rattle.model.specs.Feed.{Stopped, ended, partial, refused, Took, Feeding, bytes_taken, model_took}
use Rattle.batch.specs.Feed.{stop_at, feeding, enqueue_packets}

-- single `enqueue_packet`s, one for each of the packets ps, and what stops the row behind them
abbrev pub singly : Client → List (List ℕ) → Stopped → Answer (Feeding × Client)
singly m ps over = gives (model_many feeding (many (λ c p. model_took (length p) (enqueue_packet c p)) over m ps))

-- ---- BESIDE THE READER

-- what stops a row of packets that a reader gave: nothing is filled, or part of a packet is
unfoldable pub reader_stop : PacketReader → Stopped
reader_stop r = choose (eqb r.filled 0) ended partial

stop_filled : (r : PacketReader) (s : List ℕ) → Reader.Sound r s → stop_at r.order (take r.filled s) ≡ reader_stop r
unfolding stop_at reader_stop choose
stop_filled r s h =
    let f : r.filled ≤ length s = omega (arith, h.target_fits, h.not_reached) in
    let l : length (take r.filled s) ≡ r.filled = length-take-le r.filled s f in
    let a : aim r.order (take r.filled s) (length (take r.filled s)) ≡ r.target =
    ap (aim r.order (take r.filled s)) l ∙ aim_held r.order s r.filled f ∙ sym h.target_given in
    (λ i. choose (eqb (l i) 0) ended (choose (ltb most_buffer (a i)) (refused 2) partial))
    ∙ ap (λ (b : Bool). choose (eqb r.filled 0) ended (choose b (refused 2) partial)) (le-ltb most_buffer r.target (omega (arith, h.target_fits, h.most)))

-- AS THE READER: a reader that is fed the same bytes, in whatever pieces and with no refusal, gives packets ps. To take the run in is to take those in, one by one; and it stops behind them for the end or for a part as the reader is left.
pub feed_reader : (m : Client) {r : PacketReader} {s s' : List ℕ} {xs ps : List (List ℕ)} → Feeds (fresh m.order) s xs ps r s' → Reader.Sound (fresh m.order) s
    → enqueue_packets m (joined xs) ≡ singly m ps (reader_stop r)
unfolding enqueue_packets
feed_reader m {r} {s' = s'} {ps = ps} q h =
    let z = fed_sound q h in
    ap (λ (c : Cut). singly m c.packets (stop_at m.order c.left)) (stream m.order q h)
    ∙ ap (singly m ps) ((λ i. stop_at (sym z.0 i) (take r.filled s')) ∙ stop_filled r s' z.1)

-- ---- THE COUNT OF THE BYTES

-- a packet that is taken counts its bytes
took_counts : (n : ℕ) (a : Answer (Filing × Client)) (v : Took) (c : Client) → goes v c ≡ model_took n a → v.bytes ≡ n
unfolding model_took
took_counts n (gives x) v c e = let z : v ≡ record { bytes = n; filing = x.0 } = cc in ap (λ (t : Took). t.bytes) z
took_counts n (refuses k) v c e = absurd (let z : ◌≡◌ {A = ℕ} 0 1 = cc in omega arith)

row_counts : (over : Stopped) (m : Client) (ps : List (List ℕ)) → (values : List Took) → values ≡ (many (λ c p. model_took (length p) (enqueue_packet c p)) over m ps).values
    → bytes_taken values ≡ length (joined (take (length values) ps))
unfolding many on_turn bytes_taken
row_counts over m [] values e = ap (λ (v : List Took). bytes_taken v) e ∙ sym (ap (λ (v : List Took). length (joined (take (length v) []))) e)
row_counts over m (p ∷ ps) values e =
    go (model_took (length p) (enqueue_packet m p)) refl (λ c. row_counts over c ps (many (λ d x. model_took (length x) (enqueue_packet d x)) over c ps).values refl) e
  where
    go : (y : Turn Took Stopped Client) → y ≡ model_took (length p) (enqueue_packet m p)
        → ((c : Client) → bytes_taken (many (λ d x. model_took (length x) (enqueue_packet d x)) over c ps).values ≡ length (joined (take (length (many (λ d x. model_took (length x) (enqueue_packet d x)) over c ps).values) ps)))
        → values ≡ (on_turn (λ a s'. onward (a ∷ []) (many (λ d x. model_took (length x) (enqueue_packet d x)) over s' ps)) (λ w. record { values = []; stopped = w; end = m }) y).values
        → bytes_taken values ≡ length (joined (take (length values) (p ∷ ps)))
    go (goes v c) q r f =
        let vs : List Took = (many (λ d x. model_took (length x) (enqueue_packet d x)) over c ps).values in
        let b : v.bytes ≡ length p = took_counts (length p) (enqueue_packet m p) v c q in
        ap (λ (x : List Took). bytes_taken x) f
        ∙ (λ i. b i + r c i)
        ∙ sym (length-append p (joined (take (length vs) ps)))
        ∙ sym (ap (λ (x : List Took). length (joined (take (length x) (p ∷ ps)))) f)
    go (stops w) q r f = ap (λ (v : List Took). bytes_taken v) f ∙ sym (ap (λ (v : List Took). length (joined (take (length v) (p ∷ ps)))) f)

joined_take : (n : ℕ) (ps : List (List ℕ)) → length (joined (take n ps)) ≤ length (joined ps)
joined_take zero ps = omega arith
joined_take (suc n) [] = omega arith
joined_take (suc n) (p ∷ ps) = omega (arith, joined_take n ps, length-append p (joined (take n ps)), length-append p (joined ps))

-- THE BYTES that are counted are those of the packets that were taken, from the front of the run, and no more than there are.
pub feed_bytes : (m : Client) (bytes : List ℕ) (x : Feeding × Client) → gives x ≡ enqueue_packets m bytes
    → (bytes_taken x.0.packets ≡ length (joined (take (length x.0.packets) (cut_packets m.order bytes).packets))) × (bytes_taken x.0.packets ≤ length bytes)
unfolding enqueue_packets
feed_bytes m bytes x e =
    let cut : Cut = cut_packets m.order bytes in
    let v : x.0.packets ≡ (many (λ c p. model_took (length p) (enqueue_packet c p)) (stop_at m.order cut.left) m cut.packets).values = ap (λ (y : Feeding × Client). y.0.packets) (gives_same e) in
    let z = row_counts (stop_at m.order cut.left) m cut.packets x.0.packets v in
    (z, omega (arith, z, joined_take (length x.0.packets) cut.packets, length-append (joined cut.packets) cut.left, ap length (packets_whole m.order bytes)))
