-- A run of bytes, packet by packet, in the model: with an honest server each packet of it that is taken is filed under its true number, and none is ahead. Assumes nothing.
use Rattle.std.specs.Prelude.{Bool, true, false, List, [], ◌∷◌, ◌⊎◌, ◌≡◌, refl, ℕ, ltb, eqb, length, take, drop}
use Rattle.std.proofs.Common.{inl, inr, ⊎_elim, sym, ap, ◌∙◌, subst, arith}
use Rattle.octets.specs.Logic.{choose, apart}
use Rattle.refusal.specs.Answer.{Answer, gives, refuses, gives_same}
use Rattle.packet.specs.Packet.{code_of, unnumbered}
use Rattle.packet_reader.specs.Frame.{aim, cut_packets}
use Rattle.packet_reader.specs.Reader.{most_buffer}
use Rattle.model.specs.Client.{Client}
use Rattle.model.specs.Model.{Filing, enqueue_packet}
use Rattle.model.specs.Calls.{enqueue, step}
use Rattle.model.specs.Batch.{onward, on_turn, Many, many, notes}
use Rattle.model.specs.Feed.{Stopped, ended, partial, refused, Took, Feeding, model_took}
use Rattle.batch.specs.Feed.{stop_at, enqueue_packets}
use Rattle.honest.specs.Run.{Entry, took, note_took, noted, Runs, call, Fair, Honest, Ordinary}
use Rattle.honest.proofs.Calls.{taking, counted, uncounted}
use Rattle.honest.specs.Server.{Packet}
use Rattle.honest.proofs.Theorems.{unnumbered_refused, never_ended, next_filed}
use Rattle.session.specs.Noting.{Noting, noting, next, note_packet}
use Rattle.session.specs.Serving.{bytes_in, numbers_in, FiledAll, NextFair}

-- ---- the log of a row

-- a log that is honest was honest before it grew
pub noted_honest : (o t : ℕ) (p : List ℕ) (f : Filing) (l : List Entry) → Honest o (note_took t p (gives (f, tt {0})) l) → (unnumbered (code_of p) ≡ false → Fair o l t p) × Honest o l
unfolding note_took choose
noted_honest o t p f l h = go (unnumbered (code_of p)) h
  where
    go : (b : Bool) → Honest o (choose b l (took t p f ∷ l)) → (b ≡ false → Fair o l t p) × Honest o l
    go true k = (λ e. apart refl e, k)
    go false k = (λ e. k.0, k.1)

row_honest : (o : ℕ) (ps : List (List ℕ)) (vs : List Took) (n : Noting) → Honest o (notes note_packet ps vs n).log → Honest o n.log
unfolding notes note_packet
row_honest o [] vs n h = h
row_honest o (p ∷ ps) [] n h = h
row_honest o (p ∷ ps) (v ∷ vs) n h = (noted_honest o (next n.numbers) p v.filing n.log (row_honest o ps vs (note_packet p v n) h)).1

-- a packet that is taken keeps the byte order
pub order_kept : (m : Client) (p : List ℕ) (x : Filing × Client) → gives x ≡ enqueue_packet m p → x.1.order ≡ m.order
order_kept m p x e = go (unnumbered (code_of p)) refl
  where
    go : (b : Bool) → unnumbered (code_of p) ≡ b → x.1.order ≡ m.order
    go true h = (uncounted m p x (taking m p x e) h).0
    go false h = (counted m p x (taking m p x e) h).order_is

-- and is a step of the run
taken_runs : {m : Client} {l : List Entry} → Runs m l → (t : ℕ) (p : List ℕ) (x : Filing × Client) → gives x ≡ enqueue_packet m p → Runs x.1 (note_took t p (gives (x.0, tt {0})) l)
unfolding step noted note_took
taken_runs k t p x e = rw (sym e) at (call (enqueue p) t k)

-- ---- THE PACKETS OF A RUN are filed under their true numbers.

abbrev row_of : Stopped → Client → List (List ℕ) → Many Took Stopped Client
row_of over m ps = many (λ c p. model_took (length p) (enqueue_packet c p)) over m ps

-- what such a row adds to the log
abbrev log_of : List Packet → Many Took Stopped Client → List Entry → List Entry
log_of ps x l = (notes note_packet (bytes_in ps) x.values (noting (numbers_in ps) l)).log

-- a row whose first packet comes to a
abbrev behind : Stopped → Client → Packet → List Packet → Answer (Filing × Client) → Many Took Stopped Client
behind over m q ps a = on_turn (λ v s'. onward (v ∷ []) (row_of over s' (bytes_in ps))) (λ w. record { values = []; stopped = w; end = m }) (model_took (length q.bytes) a)

-- the log once that packet was taken
abbrev grown : Packet → Filing × Client → List Entry → List Entry
grown q x l = note_took q.true_number q.bytes (gives (x.0, tt {0})) l

row_filed : {m : Client} {l : List Entry} → Runs m l → (over : Stopped) (ps : List Packet) → Honest m.order (log_of ps (row_of over m (bytes_in ps)) l)
    → FiledAll m (take (length (row_of over m (bytes_in ps)).values) ps) (row_of over m (bytes_in ps)).end
unfolding many on_turn model_took notes note_packet
row_filed k over [] h = refl
row_filed {m} {l} k over (q ∷ ps) h = go (enqueue_packet m q.bytes) refl (λ x r g. row_filed {m = x.1} {l = grown q x l} r over ps g) h
  where
    go : (a : Answer (Filing × Client)) → a ≡ enqueue_packet m q.bytes
        → ((x : Filing × Client) → Runs x.1 (grown q x l) → Honest x.1.order (log_of ps (row_of over x.1 (bytes_in ps)) (grown q x l)) → FiledAll x.1 (take (length (row_of over x.1 (bytes_in ps)).values) ps) (row_of over x.1 (bytes_in ps)).end)
        → Honest m.order (log_of (q ∷ ps) (behind over m q ps a) l) → FiledAll m (take (length (behind over m q ps a).values) (q ∷ ps)) (behind over m q ps a).end
    go (gives x) e on g =
        let f = noted_honest m.order q.true_number q.bytes x.0 l (row_honest m.order (bytes_in ps) (row_of over x.1 (bytes_in ps)).values (noting (numbers_in ps) (grown q x l)) g) in (
          x,
          e,
          λ carries. next_filed k f.1 q.true_number q.bytes carries (f.0 carries) x e,
          on x (taken_runs k q.true_number q.bytes x e) (subst (λ (o : ℕ). Honest o (log_of ps (row_of over x.1 (bytes_in ps)) (grown q x l))) (sym (order_kept m q.bytes x e)) g),
        )
    go (refuses n) e on g = refl

-- ---- WHAT STOPS A RUN: of an honest server's packets none is refused but by 1, 2, 4 and 5.

packet_refused : {m : Client} {l : List Entry} → Runs m l → Honest m.order l → (q : Packet) → (unnumbered (code_of q.bytes) ≡ false → Fair m.order l q.true_number q.bytes) → (n : ℕ) → enqueue_packet m q.bytes ≡ refuses n → Ordinary n
packet_refused {m} k h q f n e = go (unnumbered (code_of q.bytes)) refl
  where
    go : (b : Bool) → unnumbered (code_of q.bytes) ≡ b → Ordinary n
    go true u = unnumbered_refused m q.bytes u n e
    go false u = never_ended k h q.true_number q.bytes u (f u) n e

row_refused : {m : Client} {l : List Entry} → Runs m l → (over : Stopped) (ps : List Packet) → Honest m.order (log_of ps (row_of over m (bytes_in ps)) l)
    → NextFair m.order (log_of ps (row_of over m (bytes_in ps)) l) (drop (length (row_of over m (bytes_in ps)).values) ps) → (n : ℕ) → (row_of over m (bytes_in ps)).stopped ≡ refused n → (over ≡ refused n) ⊎ Ordinary n
unfolding many on_turn model_took notes note_packet
row_refused k over [] h f n s = inl s
row_refused {m} {l} k over (q ∷ ps) h f n s = go (enqueue_packet m q.bytes) refl (λ x r g i. row_refused {m = x.1} {l = grown q x l} r over ps g i n) h f s
  where
    go : (a : Answer (Filing × Client)) → a ≡ enqueue_packet m q.bytes
        → ((x : Filing × Client) → Runs x.1 (grown q x l) → Honest x.1.order (log_of ps (row_of over x.1 (bytes_in ps)) (grown q x l))
        → NextFair x.1.order (log_of ps (row_of over x.1 (bytes_in ps)) (grown q x l)) (drop (length (row_of over x.1 (bytes_in ps)).values) ps) → (row_of over x.1 (bytes_in ps)).stopped ≡ refused n → (over ≡ refused n) ⊎ Ordinary n)
        → Honest m.order (log_of (q ∷ ps) (behind over m q ps a) l) → NextFair m.order (log_of (q ∷ ps) (behind over m q ps a) l) (drop (length (behind over m q ps a).values) (q ∷ ps)) → (behind over m q ps a).stopped ≡ refused n
        → (over ≡ refused n) ⊎ Ordinary n
    go (gives x) e on g i t =
        let o = sym (order_kept m q.bytes x e) in
        let l' : List Entry = log_of ps (row_of over x.1 (bytes_in ps)) (grown q x l) in
        on x (taken_runs k q.true_number q.bytes x e) (subst (λ (y : ℕ). Honest y l') o g) (subst (λ (y : ℕ). NextFair y l' (drop (length (row_of over x.1 (bytes_in ps)).values) ps)) o i) t
    go (refuses j) e on g i t = let z : j ≡ n = cc in inr (packet_refused k g q i n (sym e ∙ ap refuses z))

-- what the call gives is the row
fed_row : (m : Client) (bytes : List ℕ) (v : Feeding) (m' : Client) → enqueue_packets m bytes ≡ gives (v, m')
    → (v.stopped ≡ (row_of (stop_at m.order (cut_packets m.order bytes).left) m (cut_packets m.order bytes).packets).stopped) × (v.packets ≡ (row_of (stop_at m.order (cut_packets m.order bytes).left) m (cut_packets m.order bytes).packets).values) × (m' ≡ (row_of (stop_at m.order (cut_packets m.order bytes).left) m (cut_packets m.order bytes).packets).end)
unfolding enqueue_packets
fed_row m bytes v m' e = let g = gives_same (sym e) in (ap (λ y. y.0.stopped) g, ap (λ y. y.0.packets) g, ap (λ y. y.1) g)

-- behind its last packet it is stopped by no refusal but 2
stop_long : (o : ℕ) (b : List ℕ) (n : ℕ) → stop_at o b ≡ refused n → n ≡ 2
unfolding stop_at choose
stop_long o b n = go (eqb (length b) 0) (ltb most_buffer (aim o b (length b)))
  where
    go : (x y : Bool) → choose x ended (choose y (refused 2) partial) ≡ refused n → n ≡ 2
    go true y e = absurd (let z : ◌≡◌ {A = ℕ} 0 1 = cc in omega arith)
    go false true e = cc
    go false false e = absurd (let z : ◌≡◌ {A = ℕ} 0 1 = cc in omega arith)

module _ {m : Client} {l : List Entry} (k : Runs m l) (bytes : List ℕ) (ps : List Packet) (cuts : bytes_in ps ≡ (cut_packets m.order bytes).packets) where
  pub run_fed : (v : Feeding) (m' : Client) → enqueue_packets m bytes ≡ gives (v, m') → Honest m.order (notes note_packet (cut_packets m.order bytes).packets v.packets (noting (numbers_in ps) l)).log
      → FiledAll m (take (length v.packets) ps) m'
  run_fed v m' e h =
      let g = fed_row m bytes v m' e in
      rw (g.1, g.2, sym cuts) (row_filed k (stop_at m.order (cut_packets m.order bytes).left) ps (rw (g.1, sym cuts) at h))

  pub run_refused : (v : Feeding) (m' : Client) → enqueue_packets m bytes ≡ gives (v, m') → Honest m.order (notes note_packet (cut_packets m.order bytes).packets v.packets (noting (numbers_in ps) l)).log
      → NextFair m.order (notes note_packet (cut_packets m.order bytes).packets v.packets (noting (numbers_in ps) l)).log (drop (length v.packets) ps) → (n : ℕ) → v.stopped ≡ refused n → Ordinary n
  run_refused v m' e h f n s =
      let g = fed_row m bytes v m' e in
      let over : Stopped = stop_at m.order (cut_packets m.order bytes).left in
      ⊎_elim (λ (z : over ≡ refused n). inr (inl (stop_long m.order (cut_packets m.order bytes).left n z))) (λ z. z)
      (row_refused k over ps (rw (g.1, sym cuts) at h) (rw (g.1, sym cuts) at f) n (rw (g.0, sym cuts) at s))
