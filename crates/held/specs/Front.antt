-- The record at an index of a store: what the code reads there is what stands there. Assumes nothing.
use Rattle.std.specs.Prelude.{◌≡◌, refl, ℕ, ◌+◌, ◌-◌, ◌≤◌, Option, Some, None, unwrap_or}
use Rattle.std.proofs.Math.Path.{sym, ap, subst₂}
use Rattle.std.proofs.Common.{◌∙◌, arith, length-append, take-append-drop}
use mathlib.Core.List.{List, ◌++◌, append_assoc}
use Rattle.std.proofs.Math.ListN.{length, drop}
use Rattle.std.specs.Prelude.{Bool, true, false}
use Rattle.std.specs.Option.{is_none}
use Rattle.octets.specs.Bytes.{little_order, Octets, number_below}
use Rattle.octets.specs.Put.{cut, length_cut, cut_cut}
use Rattle.octets.specs.Field.{field, octets_cut}
use Rattle.held.specs.General.{field_front, cut_left, cut_right}
use Rattle.packet.specs.Packet.{least_packet, most_packet}
use Rattle.held.specs.Head.{header_size, number_at, length_at, count_at, kind_at, zero_at, event, Record, Fits, cost, encoded, decoded, most_fds, num_of, len_of, fds_of, kind_of, zero_of, length_encoded, num_of_encoded, len_of_encoded, fds_of_encoded, kind_of_encoded, zero_of_encoded, packet_encoded, encoded_decoded}

-- ---- a record stands at an index

-- the record h in the n bytes from an index on, with y behind it: its fields are read there, and its packet
pub record Stands (s : List ℕ) (at n : ℕ) (h : Record) (y : List ℕ) : Type 0 where
  pub number : num_of (drop at s) ≡ h.number
  pub len : len_of (drop at s) ≡ length h.packet
  pub fds : fds_of (drop at s) ≡ h.fds
  pub kind : kind_of (drop at s) ≡ h.kind
  pub zero : zero_of (drop at s) ≡ 0
  pub least : header_size + least_packet ≤ cost h
  pub most : cost h ≤ n
  pub here : cut at (cost h) s ≡ encoded h
  pub packet : cut (at + header_size) (length h.packet) s ≡ h.packet
  pub next : cut (at + cost h) (n - cost h) s ≡ y

pub stands : (s : List ℕ) (at n : ℕ) (h : Record) (y : List ℕ) → at + n ≤ length s → cut at n s ≡ encoded h ++ y → Fits h → Stands s at n h y
unfolding cut
stands s at n h y r e f =
    let l : length (encoded h) ≡ cost h = length_encoded h in
    let m : cost h ≤ n = omega (arith, ap length e, length_cut at n s r, length-append (encoded h) y) in
    let z : List ℕ = y ++ drop n (drop at s) in
    let d : drop at s ≡ encoded h ++ z = sym (take-append-drop n (drop at s)) ∙ ap (λ (x : List ℕ). x ++ drop n (drop at s)) e ∙ append_assoc (encoded h) y (drop n (drop at s)) in
    record {
      number = ap num_of d ∙ num_of_encoded h f z;
      len = ap len_of d ∙ len_of_encoded h f z;
      fds = ap fds_of d ∙ fds_of_encoded h f z;
      kind = ap kind_of d ∙ kind_of_encoded h f z;
      zero = ap zero_of d ∙ zero_of_encoded h f z;
      least = omega (arith, f.least);
      most = m;
      here = ap (λ (i : ℕ). cut at i s) (sym l) ∙ cut_left s at n (encoded h) y e (omega arith);
      packet = sym (cut_cut s at n header_size (length h.packet) m) ∙ ap (cut header_size (length h.packet)) e ∙ packet_encoded h f y;
      next = (λ k. cut (at + sym l k) (n - sym l k) s) ∙ cut_right s at n (encoded h) y e (omega arith);
    }

-- ---- whether one does, decided

-- bytes begin with a record that fits
pub record Begins (x : List ℕ) : Type 0 where
  pub fit : Fits (decoded x)
  pub bytes : cut 0 (cost (decoded x)) x ≡ encoded (decoded x)

-- the size of the record that bytes begin with, or 0 where they begin with none
pub record Sized (x : List ℕ) (r : ℕ) : Type 0 where
  pub some : (r ≡ 0 → ⊥) → Begins x × (r ≡ cost (decoded x))
  pub none : r ≡ 0 → Begins x → ⊥

-- the size of the record that bytes begin with, where they begin with one
pub record Begun (x : List ℕ) (r : Option ℕ) : Type 0 where
  pub some : (n : ℕ) → r ≡ Some n → Begins x × (n ≡ cost (decoded x))
  pub none : r ≡ None → Begins x → ⊥

-- The two say the same: no record has no bytes.
pub begun_sized : (x : List ℕ) (r : Option ℕ) → Begun x r → Sized x (unwrap_or r 0)
begun_sized x None b = record { some = λ z. absurd (z refl); none = λ z. b.none refl }
begun_sized x (Some n) b =
    let p = b.some n refl in
    record { some = λ z. p; none = λ z g. let q : n ≡ cost (decoded x) = p.1 in absurd (omega arith) }

pub begun_some : (x : List ℕ) (r : Option ℕ) (n : ℕ) → r ≡ Some n → Begun x r → Sized x n × (n ≡ 0 → ⊥)
begun_some x r n e b =
    let p = b.some n e in
    let q : n ≡ cost (decoded x) = p.1 in
    (record { some = λ z. p; none = λ z g. absurd (omega arith) }, λ z. absurd (omega arith))

-- the header at an index, of a record that is whole in the n bytes from there on
pub record Whole (s : List ℕ) (at n : ℕ) : Type 0 where
  pub size : header_size + len_of (drop at s) ≤ n
  pub least : least_packet ≤ len_of (drop at s)
  pub most : len_of (drop at s) ≤ most_packet
  pub kind : kind_of (drop at s) ≤ event
  pub count : fds_of (drop at s) ≤ most_fds (kind_of (drop at s))
  pub zero : zero_of (drop at s) ≡ 0

module _ (s : List ℕ) (at n : ℕ) (room : at + n ≤ length s) where
  abbrev x : List ℕ
  x = cut at n s

  long : length x ≡ n
  long = length_cut at n s room

  pub begins_stands : Begins x → Stands s at n (decoded x) (drop (cost (decoded x)) x)
  unfolding cut
  begins_stands b =
      let h : Record = decoded x in
      stands s at n h (drop (cost h) x) room (sym (take-append-drop (cost h) x) ∙ ap (λ (l : List ℕ). l ++ drop (cost h) x) b.bytes) b.fit

  begins_whole : Begins x → Whole s at n
  begins_whole b =
      let S : Stands s at n (decoded x) (drop (cost (decoded x)) x) = begins_stands b in
      record {
        size = omega (arith, S.len, S.most);
        least = omega (arith, S.len, b.fit.least);
        most = omega (arith, S.len, b.fit.most);
        kind = omega (arith, S.kind, b.fit.kind);
        count = subst₂ (λ (f k : ℕ). f ≤ most_fds k) (sym S.fds) (sym S.kind) b.fit.count;
        zero = S.zero;
      }

  whole_begins : Octets s → Whole s at n → Begins x
  unfolding decoded num_of len_of fds_of kind_of zero_of field
  whole_begins o w =
      let p : header_size ≤ n = omega (arith, w.size) in
      let e : len_of x ≡ len_of (drop at s) = field_front little_order s at n length_at 4 (omega arith) in
      let k : kind_of x ≡ kind_of (drop at s) = field_front little_order s at n kind_at 1 (omega arith) in
      let f : fds_of x ≡ fds_of (drop at s) = field_front little_order s at n count_at 1 (omega arith) in
      let z : zero_of x ≡ zero_of (drop at s) = field_front little_order s at n zero_at 2 (omega arith) in
      let c : header_size + len_of x ≤ length x = omega (arith, w.size, long) in
      let l : length (cut header_size (len_of x) x) ≡ len_of x = length_cut header_size (len_of x) x c in
      record {
        fit = record {
          number = number_below (cut number_at 8 x) 8 (length_cut number_at 8 x (omega (arith, long))) (octets_cut number_at 8 x (octets_cut at n s o));
          least = omega (arith, w.least);
          most = omega (arith, w.most);
          kind = omega (arith, w.kind);
          count = subst₂ (λ (i j : ℕ). i ≤ most_fds j) (sym f) (sym k) w.count;
        };
        bytes = ap (λ (m : ℕ). cut 0 (header_size + m) x) l ∙ sym (encoded_decoded x (octets_cut at n s o) c (z ∙ w.zero));
      }

  -- What the code decides of a record is what the sentence says.
  pub sized_none : (Whole s at n → ⊥) → Sized x 0
  sized_none h = record { some = λ z. absurd (z refl); none = λ z b. h (begins_whole b) }

  pub sized_some : Octets s → (w : Whole s at n) (r : ℕ) → r ≡ header_size + len_of (drop at s) → Sized x r
  sized_some o w r e =
      let b : Begins x = whole_begins o w in
      record { some = λ z. (b, omega (arith, (begins_stands b).len)); none = λ z b. omega arith }

  pub begun_not : (Whole s at n → ⊥) → Begun x None
  begun_not h = record { some = λ m e. absurd (let z : ◌≡◌ {A = Bool} true false = ap is_none e in let y : ◌≡◌ {A = ℕ} 0 1 = cc in omega arith); none = λ e b. h (begins_whole b) }

  pub begun_of : Octets s → (w : Whole s at n) (r : ℕ) → r ≡ header_size + len_of (drop at s) → Begun x (Some r)
  begun_of o w r e =
      let b : Begins x = whole_begins o w in
      record {
        some = λ m q. let p : unwrap_or (Some r) 0 ≡ unwrap_or (Some m) 0 = ap (λ (k : Option ℕ). unwrap_or k 0) q in (b, omega (arith, (begins_stands b).len, p));
        none = λ q. absurd (let z : ◌≡◌ {A = Bool} false true = ap is_none q in let y : ◌≡◌ {A = ℕ} 0 1 = cc in omega arith);
      }
