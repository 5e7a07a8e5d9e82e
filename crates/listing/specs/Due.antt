-- The text that is still due, and that a call pays a part of it. Assumes nothing.
use Rattle.std.specs.Prelude.{◌≡◌, refl, Bool, List, [], ◌∷◌, ◌++◌, ℕ, zero, suc, ◌+◌, ◌-◌, ◌≤◌, ◌<◌, take, drop}
use Rattle.std.proofs.Common.{sym, ◌∙◌, append_assoc, append-nil, arith, length-append, drop-drop, get_or-take}
use Rattle.std.proofs.Math.Path.{ap}
use Rattle.std.proofs.Math.Bool.{true, false}
use Rattle.std.proofs.Math.Decide.{dec_le}
use Rattle.std.proofs.Math.Dec.{ltb}
use Rattle.std.proofs.Math.ListN.{length, get_or-append}
use Rattle.std.proofs.Math.Seq.{length-take-le}
use Rattle.std.proofs.lemmas.List.{take-append-le, drop-append-le}
use borrow.Author.Tests.{lt-ltb, le-ltb}
use Rattle.octets.specs.Logic.{choose}
use Rattle.octets.specs.Bytes.{little_order}
use Rattle.refusal.specs.Answer.{Answer, gives, refuses}
use Rattle.packet.specs.Packet.{least_packet, most_packet, code_of, number_after, PacketClass, class_of}
use Rattle.packet_reader.specs.Frame.{aim, Cut, cut_packets}
use Rattle.packet_reader.specs.CutLaws.{aim_head, aim_total, total_append}
use Rattle.packet_reader.specs.Front.{Front, nothing, part, long, whole, front_of, front_long, front_whole, tells_nothing, tells_part, tells_long, tells_whole, packets_none, packets_next}
use Rattle.listing.specs.Text.{first_line, line_of, end_line, refused_line, last_line, numbered, packet_lines, lines_of, text_of}
use Rattle.listing.specs.Call.{line_most, Ahead, none, refused, packet, with_number, numbered_of, ahead_by, ahead_of, Point, start, after, ended, room, Row, waits, closing, turn, rows, row_of, opening, call_of}
use Rattle.listing.specs.Laws.{packet_fits}

-- the text that is due at a place, where these bytes are all that is to come
unfoldable pub due : Point → List ℕ → List ℕ
due start s = text_of s
due (after read) s = lines_of read s
due ended s = []

-- ---- The lines of bytes, by what they begin with

module _ (read : ℕ) (s : List ℕ) where
  lines_left : length s < aim little_order s (length s) → lines_of read s ≡ last_line s
  unfolding lines_of packet_lines
  lines_left h = ap (λ (c : Cut). packet_lines read c.packets c.left) (packets_none little_order s h)

  lines_first : aim little_order s (length s) ≤ length s
      → lines_of read s ≡ packet_lines read (take (aim little_order s (length s)) s ∷ (cut_packets little_order (drop (aim little_order s (length s)) s)).packets) (cut_packets little_order (drop (aim little_order s (length s)) s)).left
  unfolding lines_of
  lines_first h = ap (λ (c : Cut). packet_lines read c.packets c.left) (packets_next little_order s h)

  lines_end : length s < aim little_order s (length s) → aim little_order s (length s) ≤ most_packet → lines_of read s ≡ end_line (length s)
  unfolding last_line choose
  lines_end h k = lines_left h ∙ simp (le-ltb most_packet (aim little_order s (length s)) k)

  lines_long : most_packet < aim little_order s (length s) → lines_of read s ≡ refused_line 2
  unfolding last_line packet_lines choose
  lines_long k = elim (dec_le (aim little_order s (length s)) (length s)) [
    | yes p ↦ whole_one p
    | no q ↦ lines_left (omega arith) ∙ simp (lt-ltb most_packet (aim little_order s (length s)) k)
  ]
    where
      whole_one : aim little_order s (length s) ≤ length s → lines_of read s ≡ refused_line 2
      whole_one p =
          let l : length (take (aim little_order s (length s)) s) ≡ aim little_order s (length s) = length-take-le (aim little_order s (length s)) s p in
          let t : ltb most_packet (length (take (aim little_order s (length s)) s)) ≡ true = lt-ltb most_packet (length (take (aim little_order s (length s)) s)) (omega arith) in
          lines_first p ∙ simp t

  lines_whole : (n : ℕ) → n ≡ aim little_order s (length s) → n ≤ length s → n ≤ most_packet
      → lines_of read s ≡ numbered (number_after little_order read (take n s)) (λ m. line_of (code_of (take n s)) (length (take n s)) m ++ lines_of m (drop n s))
  unfolding packet_lines lines_of choose
  lines_whole n e h k =
      let l : length (take n s) ≡ n = length-take-le n s h in
      let t : ltb most_packet (length (take n s)) ≡ false = le-ltb most_packet (length (take n s)) (omega arith) in
      lines_first (omega arith)
      ∙ ap (λ (x : ℕ). packet_lines read (take x s ∷ (cut_packets little_order (drop x s)).packets) (cut_packets little_order (drop x s)).left) (sym e)
      ∙ simp t

-- what an answer says
by_number : (n m k : ℕ) (a : Answer ℕ) (f : ℕ → List ℕ) → packet n m ≡ with_number k a → (k ≡ n) × (numbered a f ≡ f m)
unfolding with_number numbered
by_number n m k (gives x) f e = let p : m ≡ x = cc in let q : k ≡ n = cc in (q, ap f (sym p))
by_number n m k (refuses x) f e = absurd (let z : ◌≡◌ {A = ℕ} 0 1 = cc in omega arith)

by_refusal : (r k : ℕ) (a : Answer ℕ) (f : ℕ → List ℕ) → refused r ≡ with_number k a → numbered a f ≡ refused_line r
unfolding with_number numbered
by_refusal r k (gives x) f e = absurd (let z : ◌≡◌ {A = ℕ} 0 1 = cc in omega arith)
by_refusal r k (refuses x) f e = let p : r ≡ x = cc in ap refused_line (sym p)

not_none : (k : ℕ) (a : Answer ℕ) → none ≡ with_number k a → ⊥
unfolding with_number
not_none k (gives x) e = let z : ◌≡◌ {A = ℕ} 0 1 = cc in omega arith
not_none k (refuses x) e = let z : ◌≡◌ {A = ℕ} 0 1 = cc in omega arith

-- No whole packet: the bytes are left over.
lines_none : (read : ℕ) (s : List ℕ) → none ≡ ahead_of read s → lines_of read s ≡ end_line (length s)
unfolding ahead_of ahead_by numbered_of
lines_none read s e = go (front_of little_order s) refl e
  where
    go : (f : Front) → front_of little_order s ≡ f → none ≡ ahead_by read s f → lines_of read s ≡ end_line (length s)
    go nothing p q =
        let z : length s ≡ 0 = tells_nothing little_order s (sym p) in
        let a : aim little_order s (length s) ≡ least_packet = aim_head little_order s (length s) (omega arith) in
        lines_end read s (omega arith) (omega arith)
    go part p q = let w = tells_part little_order s (sym p) in lines_end read s w.lacks w.most
    go long p q = absurd (let z : ◌≡◌ {A = ℕ} 0 1 = cc in omega arith)
    go (whole n j) p q = absurd (not_none (length (take n s)) (number_after little_order read (take n s)) q)

-- A refusal: it is the last line.
lines_refused : (read : ℕ) (s : List ℕ) (r : ℕ) → refused r ≡ ahead_of read s → lines_of read s ≡ refused_line r
unfolding ahead_of ahead_by numbered_of
lines_refused read s r e = go (front_of little_order s) refl e
  where
    go : (f : Front) → front_of little_order s ≡ f → refused r ≡ ahead_by read s f → lines_of read s ≡ refused_line r
    go nothing p q = absurd (let z : ◌≡◌ {A = ℕ} 0 1 = cc in omega arith)
    go part p q = absurd (let z : ◌≡◌ {A = ℕ} 0 1 = cc in omega arith)
    go long p q =
        let w = tells_long little_order s (sym p) in
        let x : 2 ≡ r = cc in
        lines_long read s w.over ∙ ap refused_line x
    go (whole n j) p q =
        let w = tells_whole little_order s n j (sym p) in
        lines_whole read s n w.target w.fits w.most
        ∙ by_refusal r (length (take n s)) (number_after little_order read (take n s)) (λ m. line_of (code_of (take n s)) (length (take n s)) m ++ lines_of m (drop n s)) q

-- A packet: its line, and then the lines of the bytes behind it.
lines_packet : (read : ℕ) (s : List ℕ) (n m : ℕ) → packet n m ≡ ahead_of read s → lines_of read s ≡ line_of (code_of s) n m ++ lines_of m (drop n s)
unfolding ahead_of ahead_by numbered_of
lines_packet read s n m e = go (front_of little_order s) refl e
  where
    go : (f : Front) → front_of little_order s ≡ f → packet n m ≡ ahead_by read s f → lines_of read s ≡ line_of (code_of s) n m ++ lines_of m (drop n s)
    go nothing p q = absurd (let z : ◌≡◌ {A = ℕ} 0 1 = cc in omega arith)
    go part p q = absurd (let z : ◌≡◌ {A = ℕ} 0 1 = cc in omega arith)
    go long p q = absurd (let z : ◌≡◌ {A = ℕ} 0 1 = cc in omega arith)
    go (whole k j) p q =
        let w = tells_whole little_order s k j (sym p) in
        let b = by_number n m (length (take k s)) (number_after little_order read (take k s)) (λ j. line_of (code_of (take k s)) (length (take k s)) j ++ lines_of j (drop k s)) q in
        let l : length (take k s) ≡ k = length-take-le k s w.fits in
        let x : k ≡ n = sym l ∙ b.0 in
        let c : code_of (take k s) ≡ code_of s = get_or-take k s 0 0 (omega (arith, w.least)) in
        lines_whole read s k w.target w.fits w.most ∙ b.1 ∙ (λ i. line_of (c i) (b.0 i) m ++ lines_of m (drop (x i) s))

-- ---- Bytes behind do not matter to what is decided

module _ (s u : List ℕ) where
  long_enough : least_packet ≤ length s → aim little_order (s ++ u) (length (s ++ u)) ≡ aim little_order s (length s)
  long_enough h =
      aim_total little_order (s ++ u) (length (s ++ u)) (omega (arith, length-append s u)) ∙ total_append little_order s u h ∙ sym (aim_total little_order s (length s) h)

  whole_append : (n : ℕ) (j : PacketClass) → whole n j ≡ front_of little_order s → whole n j ≡ front_of little_order (s ++ u)
  whole_append n j e =
      let w = tells_whole little_order s n j e in
      let l : length (s ++ u) ≡ length s + length u = length-append s u in
      front_whole little_order (s ++ u) n (w.target ∙ sym (long_enough (omega (arith, w.least, w.fits)))) (λ z. omega (arith, w.least, w.fits)) w.most (omega (arith, w.fits)) j (w.class ∙ ap class_of (sym (get_or-append s u 0 0 (omega (arith, w.least, w.fits)))))

  long_append : long ≡ front_of little_order s → long ≡ front_of little_order (s ++ u)
  long_append e =
      let w = tells_long little_order s e in
      let l : length (s ++ u) ≡ length s + length u = length-append s u in
      elim (dec_le least_packet (length s)) [
        | yes p ↦ front_long little_order (s ++ u) (aim little_order s (length s)) (sym (long_enough p)) (λ z. omega arith) w.over
        | no q ↦ absurd (let z : ⊥ = omega (arith, w.over, aim_head little_order s (length s) (omega arith)) in z)
      ]

ahead_append : (read : ℕ) (s u : List ℕ) (a : Ahead) → a ≡ ahead_of read s → (a ≡ none → ⊥) → a ≡ ahead_of read (s ++ u)
unfolding ahead_of ahead_by
ahead_append read s u a e h = go (front_of little_order s) refl e
  where
    go : (f : Front) → front_of little_order s ≡ f → a ≡ ahead_by read s f → a ≡ ahead_by read (s ++ u) (front_of little_order (s ++ u))
    go nothing p q = absurd (h q)
    go part p q = absurd (h q)
    go long p q = q ∙ ap (ahead_by read (s ++ u)) (long_append s u (sym p))
    go (whole n j) p q =
        let w = tells_whole little_order s n j (sym p) in
        q ∙ ap (numbered_of read) (sym (take-append-le n s u w.fits)) ∙ ap (ahead_by read (s ++ u)) (whole_append s u n j (sym p))

-- ---- A call pays a part of what is due.

module _ (read : ℕ) (s u : List ℕ) where
  due_refused : (r : ℕ) → refused r ≡ ahead_of read s → lines_of read (s ++ u) ≡ refused_line r
  due_refused r e = lines_refused read (s ++ u) r (ahead_append read s u (refused r) e (λ z. let y : ◌≡◌ {A = ℕ} 0 1 = cc in omega arith))

  due_packet : (n m : ℕ) → packet n m ≡ ahead_of read s → lines_of read (s ++ u) ≡ line_of (code_of s) n m ++ lines_of m (drop n s ++ u)
  due_packet n m e =
      let p = packet_fits read s n m e in
      let c : code_of (s ++ u) ≡ code_of s = get_or-append s u 0 0 (omega (arith, p.least, p.most)) in
      let d : drop n (s ++ u) ≡ drop n s ++ u = drop-append-le n s u p.most in
      lines_packet read (s ++ u) n m (ahead_append read s u (packet n m) e (λ z. let y : ◌≡◌ {A = ℕ} 0 1 = cc in omega arith))
      ∙ (λ i. line_of (c i) n m ++ lines_of m (d i))

-- what a row leaves due
abbrev pub Pays : List ℕ → List ℕ → List ℕ → Row → Type 0
Pays whole-text s u r = whole-text ≡ r.text ++ due r.point (drop r.used s ++ u)

turn_pays : (k : ℕ) (over : Bool) (left read : ℕ) (s u : List ℕ) (a : Ahead) → a ≡ ahead_of read s → (over ≡ true → u ≡ [])
    → ((n m : ℕ) → least_packet ≤ n → n ≤ length s → Pays (lines_of m (drop n s ++ u)) (drop n s) u (rows k over (left - length (line_of (code_of s) n m)) m (drop n s)))
    → Pays (lines_of read (s ++ u)) s u (turn over read s a (λ n m. rows k over (left - length (line_of (code_of s) n m)) m (drop n s)))
unfolding turn closing choose due
turn_pays k true left read s u none e o h =
    ap (λ (x : List ℕ). lines_of read (s ++ x)) (o refl) ∙ ap (lines_of read) (append-nil s) ∙ lines_none read s e ∙ sym (append-nil (end_line (length s)))
turn_pays k false left read s u none e o h = refl
turn_pays k over left read s u (refused r) e o h = due_refused read s u r e ∙ sym (append-nil (refused_line r))
turn_pays k over left read s u (packet n m) e o h =
    let p = packet_fits read s n m e in
    let r : Row = rows k over (left - length (line_of (code_of s) n m)) m (drop n s) in
    let x : r.used + n ≡ n + r.used = omega arith in
    due_packet read s u n m e
    ∙ ap (λ (y : List ℕ). line_of (code_of s) n m ++ y) (h n m p.least p.most)
    ∙ sym (append_assoc (line_of (code_of s) n m) r.text (due r.point (drop r.used (drop n s) ++ u)))
    ∙ ap (λ (y : List ℕ). line_of (code_of s) n m ++ r.text ++ due r.point (y ++ u)) (drop-drop r.used n s)

rows_pays : (k : ℕ) (over : Bool) (left read : ℕ) (s u : List ℕ) → (over ≡ true → u ≡ []) → Pays (lines_of read (s ++ u)) s u (rows k over left read s)
unfolding rows choose due
rows_pays zero over left read s u o = refl
rows_pays (suc k) over left read s u o =
    go (ltb left line_most)
    (turn_pays k over left read s u (ahead_of read s) refl o (λ n m p q. rows_pays k over (left - length (line_of (code_of s) n m)) m (drop n s) u o))
  where
    go : (b : Bool) → Pays (lines_of read (s ++ u)) s u (turn over read s (ahead_of read s) (λ n m. rows k over (left - length (line_of (code_of s) n m)) m (drop n s)))
        → Pays (lines_of read (s ++ u)) s u (choose b (waits (after read) room) (turn over read s (ahead_of read s) (λ n m. rows k over (left - length (line_of (code_of s) n m)) m (drop n s))))
    go true h = refl
    go false h = h

-- What was due is the text of a call and what is due then, whatever bytes come behind; none may come behind a stream that is over.
pub call_due : (over : Bool) (left : ℕ) (p : Point) (s u : List ℕ) → (over ≡ true → u ≡ []) → Pays (due p (s ++ u)) s u (call_of over left p s)
unfolding call_of opening row_of choose due text_of
call_due over left start s u o = go (ltb left line_most)
  where
    go : (b : Bool) → Pays (due start (s ++ u)) s u (choose b (waits start room) (record { text = first_line; used = 0; point = after 0; want = room }))
    go true = refl
    go false = refl
call_due over left (after read) s u o = rows_pays (suc (length s)) over left read s u o
call_due over left ended s u o = refl
