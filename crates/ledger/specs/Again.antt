-- A run of bytes in two pieces is the run. Assumes nothing.
use Rattle.std.specs.Prelude.{Bool, true, false, List, [], ◌∷◌, ◌++◌, ◌≡◌, refl, ℕ, zero, suc, ◌+◌, ◌≤◌, ltb, length, take, drop}
use Rattle.std.proofs.Common.{append_assoc, sym, ap, ◌∙◌, arith, length-append, length-drop, take-append-drop, take_at, drop_at, take_all, length-take-le, ltb-true, ltb-false}
use Rattle.refusal.specs.Answer.{Answer, gives, refuses, gives_same}
use Rattle.packet.specs.Packet.{least_packet}
use Rattle.packet_reader.specs.Frame.{aim, Cut, cons, cut_packets}
use Rattle.packet_reader.specs.CutLaws.{aim_least, aim_total, total_append}
use Rattle.packet_reader.specs.Front.{packets_none, packets_next, packets_whole}
use Rattle.packet_reader.specs.Stream.{joined}
use Rattle.model.specs.Client.{Client}
use Rattle.model.specs.Model.{Filing, enqueue_packet}
use Rattle.model.specs.Batch.{Many, onward, on_turn, many}
use Rattle.model.specs.Feed.{Stopped, ended, partial, refused, Took, Feeding, bytes_taken, model_took}
use Rattle.batch.specs.Feed.{stop_at, enqueue_packets}
use Rattle.batch.specs.FeedTheorems.{feed_bytes}
use Rattle.session.proofs.FeedFiled.{order_kept}

-- it stopped for want of bytes, not for a refusal
abbrev pub Waits : Stopped → Type 0
Waits ended = Unit {0}
Waits partial = Unit {0}
Waits (refused n) = ⊥

-- what a call gives, with packets that were taken before
abbrev pub with_taken : List Took → Answer (Feeding × Client) → Answer (Feeding × Client)
with_taken ts (gives x) = gives (record { packets = ts ++ x.0.packets; stopped = x.0.stopped }, x.1)
with_taken ts (refuses n) = refuses n

-- ---- cutting

abbrev behind : List (List ℕ) → Cut → Cut
behind ps c = record { packets = ps ++ c.packets; left = c.left }

-- the packets of the first piece, and then those of what it left and the second
cut_again : (o n : ℕ) (a b : List ℕ) → length a ≤ n → cut_packets o (a ++ b) ≡ behind (cut_packets o a).packets (cut_packets o ((cut_packets o a).left ++ b))
cut_again o zero a b h = sym (ap (λ (c : Cut). behind c.packets (cut_packets o (c.left ++ b))) (packets_none o a (omega (arith, aim_least o a (length a)))))
cut_again o (suc n) a b h = go (λ u k. cut_again o n u b k) (ltb (length a) (aim o a (length a))) refl
  where
    go : ((u : List ℕ) → length u ≤ n → cut_packets o (u ++ b) ≡ behind (cut_packets o u).packets (cut_packets o ((cut_packets o u).left ++ b)))
        → (x : Bool) → ltb (length a) (aim o a (length a)) ≡ x → cut_packets o (a ++ b) ≡ behind (cut_packets o a).packets (cut_packets o ((cut_packets o a).left ++ b))
    go on true e = sym (ap (λ (c : Cut). behind c.packets (cut_packets o (c.left ++ b))) (packets_none o a (ltb-true _ _ e)))
    go on false e =
        let t : ℕ = aim o a (length a) in
        let k : t ≤ length a = ltb-false _ _ e in
        let w : least_packet ≤ t = aim_least o a (length a) in
        let l : length (a ++ b) ≡ length a + length b = length-append a b in
        let p : length (take t a) ≡ t = length-take-le t a k in
        let s : a ++ b ≡ take t a ++ (drop t a ++ b) = ap (λ (x : List ℕ). x ++ b) (sym (take-append-drop t a)) ∙ append_assoc (take t a) (drop t a) b in
        let d : aim o (a ++ b) (length (a ++ b)) ≡ t =
        aim_total o (a ++ b) (length (a ++ b)) (omega arith) ∙ total_append o a b (omega arith) ∙ sym (aim_total o a (length a) (omega arith)) in
        let q : take (aim o (a ++ b) (length (a ++ b))) (a ++ b) ≡ take t a = (λ i. take (d i) (s i)) ∙ take_at (take t a) (drop t a ++ b) t p in
        let r : drop (aim o (a ++ b) (length (a ++ b))) (a ++ b) ≡ drop t a ++ b = (λ i. drop (d i) (s i)) ∙ drop_at (take t a) (drop t a ++ b) t p in
        packets_next o (a ++ b) (omega arith)
        ∙ (λ i. cons (q i) (cut_packets o (r i)))
        ∙ ap (cons (take t a)) (on (drop t a) (omega (arith, length-drop t a)))
        ∙ sym (ap (λ (c : Cut). behind c.packets (cut_packets o (c.left ++ b))) (packets_next o a k))

-- ---- rows

abbrev row_of : Client → Stopped → List (List ℕ) → Many Took Stopped Client
row_of m over ps = many (λ c p. model_took (length p) (enqueue_packet c p)) over m ps

abbrev after_turn : Client → Stopped → List ℕ → List (List ℕ) → Answer (Filing × Client) → Many Took Stopped Client
after_turn m over p rest a = on_turn (λ t c. onward (t ∷ []) (row_of c over rest)) (λ x. record { values = []; stopped = x; end = m }) (model_took (length p) a)

-- the row of the first packets, all of which were taken, and then that of the others
row_again : (m : Client) (over w : Stopped) (ps qs : List (List ℕ)) → Waits (row_of m over ps).stopped
    → (row_of m w (ps ++ qs) ≡ onward (row_of m over ps).values (row_of (row_of m over ps).end w qs)) × (length (row_of m over ps).values ≡ length ps) × ((row_of m over ps).end.order ≡ m.order)
unfolding many on_turn model_took
row_again m over w [] qs h = (refl, refl, refl)
row_again m over w (p ∷ ps) qs h = go (enqueue_packet m p) refl (λ c k. row_again c over w ps qs k) h
  where
    go : (a : Answer (Filing × Client)) → a ≡ enqueue_packet m p
        → ((c : Client) → Waits (row_of c over ps).stopped → (row_of c w (ps ++ qs) ≡ onward (row_of c over ps).values (row_of (row_of c over ps).end w qs)) × (length (row_of c over ps).values ≡ length ps) × ((row_of c over ps).end.order ≡ c.order))
        → Waits (after_turn m over p ps a).stopped
        → (after_turn m w p (ps ++ qs) a ≡ onward (after_turn m over p ps a).values (row_of (after_turn m over p ps a).end w qs)) × (length (after_turn m over p ps a).values ≡ suc (length ps)) × ((after_turn m over p ps a).end.order ≡ m.order)
    go (gives x) e on k =
        let z = on x.1 k in
        (ap (onward (record { bytes = length p; filing = x.0 } ∷ [])) z.0, ap suc z.1, z.2 ∙ order_kept m p x e)
    go (refuses n) e on k = absurd k

-- A RUN IN TWO PIECES: where the first stopped for want of bytes, what it left and the second piece behind it bring to the same packets and the same state as both at once.
pub again : (m : Client) (a b : List ℕ) (f : Feeding) (m' : Client) → gives (f, m') ≡ enqueue_packets m a → Waits f.stopped
    → enqueue_packets m (a ++ b) ≡ with_taken f.packets (enqueue_packets m' (drop (bytes_taken f.packets) a ++ b))
unfolding enqueue_packets
again m a b f m' e h =
    let o : ℕ = m.order in
    let cut : Cut = cut_packets o a in
    let row : Many Took Stopped Client = row_of m (stop_at o cut.left) cut.packets in
    let z : ◌≡◌ {A = Feeding × Client} (f, m') (record { packets = row.values; stopped = row.stopped }, row.end) = gives_same e in
    let rest : Cut = cut_packets o (cut.left ++ b) in
    let y = row_again m (stop_at o cut.left) (stop_at o rest.left) cut.packets rest.packets (subst_waits (ap (λ (v : Feeding × Client). v.0.stopped) z) h) in
    let v : f.packets ≡ row.values = ap (λ (u : Feeding × Client). u.0.packets) z in
    let n : length f.packets ≡ length cut.packets = ap length v ∙ y.1 in
    let c : bytes_taken f.packets ≡ length (joined cut.packets) =
    (feed_bytes m a (f, m') e).0 ∙ ap (λ (k : ℕ). length (joined (take k cut.packets))) n ∙ ap (λ (l : List (List ℕ)). length (joined l)) (take_all (length cut.packets) cut.packets (omega arith)) in
    let d : drop (bytes_taken f.packets) a ≡ cut.left =
    (λ i. drop (c i) (sym (packets_whole o a) i)) ∙ drop_at (joined cut.packets) cut.left (length (joined cut.packets)) refl in
    ap (λ (x : Cut). one m (stop_at o x.left) x.packets) (cut_again o (length a) a b (omega arith))
    ∙ ap made y.0
    ∙ ap (λ (k : ℕ). with_taken row.values (one row.end (stop_at k (cut_packets k (cut.left ++ b)).left) (cut_packets k (cut.left ++ b)).packets)) (sym y.2)
    ∙ sym ((λ i. with_taken (v i) (enqueue_packets (ap (λ (u : Feeding × Client). u.1) z i) (d i ++ b))))
  where
    made : Many Took Stopped Client → Answer (Feeding × Client)
    made x = gives (record { packets = x.values; stopped = x.stopped }, x.end)

    one : Client → Stopped → List (List ℕ) → Answer (Feeding × Client)
    one k w ps = made (row_of k w ps)

    subst_waits : {x w : Stopped} → x ≡ w → Waits x → Waits w
    subst_waits q k = rw q at k
