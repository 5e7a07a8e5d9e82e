-- Laws of lines as they are written, and of what bytes begin with. Assumes nothing.
use Rattle.std.specs.Prelude.{◌≡◌, refl, Bool, true, false, List, [], ◌∷◌, ◌++◌, ℕ, ◌+◌, ◌≤◌, ◌<◌, length, take, set, Option, Some, Result, Ok, Err}
use Rattle.std.proofs.Common.{sym, ◌∙◌, subst, arith, length-append, length-take-le, lt-ltb, le-ltb}
use Rattle.std.proofs.Math.Path.{ap}
use Rattle.octets.specs.Logic.{choose}
use Rattle.octets.specs.Bytes.{little_order}
use Rattle.octets.specs.Put.{put, length_put, put_none, put_put, set_behind}
use Rattle.refusal.specs.Answer.{Answer, gives, refuses}
use Rattle.refusal.specs.declared.Refusal.{Refusal}
use Rattle.sequence.specs.Numbering.{says_full}
use Rattle.sequence.specs.declared.SequenceNumber.{SequenceNumber}
use Rattle.packet.specs.Packet.{least_packet, number_after}
use Rattle.packet.specs.Class.{says_class}
use Rattle.packet.specs.declared.Class.{Class}
use Rattle.packet_reader.specs.Front.{Front, nothing, part, long, whole, front_of, says_begins, tells_whole}
use Rattle.packet_reader.specs.declared.Begins.{Begins}
use Rattle.listing.specs.Text.{decimal, item, first_line, line_of, end_line, refused_line}
use Rattle.listing.specs.Call.{item_most, line_most, Wrote, none, refused, packet, with_number, numbered_of, ahead_by, ahead_of, says_next, opening, closing, closes, waits, start, after, room, Lists}
use Rattle.listing.specs.declared.Stage.{Stage}
use Rattle.listing.specs.declared.Wants.{Wants}
use Rattle.listing.specs.declared.lines.Next.{Next}

-- ---- Lines as they are written

-- Two side by side are one.
pub wrote_both : (m k : ℕ) (s s₁ s₂ : List ℕ) (at a b : ℕ) (u v : List ℕ) → Wrote m s at u a s₁ → Wrote k s₁ a v b s₂ → at + (m + k) ≤ length s → Wrote (m + k) s at (u ++ v) b s₂
wrote_both m k s s₁ s₂ at a b u v p q h =
    let l : length (u ++ v) ≡ length u + length v = length-append u v in
    let e : b ≡ at + length (u ++ v) = omega (arith, p.end, q.end) in
    let f : length (u ++ v) ≤ m + k = omega (arith, p.few, q.few) in
    let w : s₂ ≡ put s at (u ++ v) =
    q.stands ∙ (λ i. put (p.stands i) (p.end i) v) ∙ put_put s at (length u) u v refl (omega (arith, p.few, q.few)) in
    record { end = e; few = f; stands = w }

pub wrote_long : (m : ℕ) (s s₁ : List ℕ) (at a : ℕ) (u : List ℕ) → Wrote m s at u a s₁ → at + m ≤ length s → length s₁ ≡ length s
wrote_long m s s₁ at a u p h = ap length p.stands ∙ length_put s at u (omega (arith, p.few))

-- a number and the byte behind it
pub item_room : (out out₁ : List ℕ) (at k : ℕ) (t : List ℕ) → at + item_most ≤ length out → k ≤ 20 → k ≡ length t → out₁ ≡ put out at t → at + k < length out₁
item_room out out₁ at k t h f l p = omega (arith, ap length p, length_put out at t (omega arith))

pub item_wrote : (out out₁ : List ℕ) (at n b k : ℕ) (t : List ℕ) → at + item_most ≤ length out → k ≤ 20 → t ≡ decimal n → k ≡ length t → out₁ ≡ put out at t
    → Wrote item_most out at (item n b) (at + k + 1) (set out₁ (at + k) b)
unfolding item
item_wrote out out₁ at n b k t h f d l p =
    let m : length (decimal n) ≡ k = sym (l ∙ ap length d) in
    let j : length (decimal n ++ (b ∷ [])) ≡ k + 1 = length-append (decimal n) (b ∷ []) ∙ (omega arith) in
    record {
      end = omega arith;
      few = omega arith;
      stands = ap (λ (x : List ℕ). set x (at + k) b) (p ∙ ap (put out at) d) ∙ set_behind out at k (decimal n) b m (omega arith);
    }

pub line_wrote : (s s₁ s₂ s₃ : List ℕ) (at a b c : ℕ) (code size number : ℕ) → at + line_most ≤ length s → Wrote item_most s at (item code 32) a s₁ → Wrote item_most s₁ a (item size 32) b s₂
    → Wrote item_most s₂ b (item number 10) c s₃ → Wrote line_most s at (line_of code size number) c s₃
unfolding line_of
line_wrote s s₁ s₂ s₃ at a b c code size number h p q r =
    let l : length s₁ ≡ length s = wrote_long item_most s s₁ at a (item code 32) p (omega arith) in
    wrote_both item_most 42 s s₁ s₃ at a c (item code 32) (item size 32 ++ item number 10) p
    (wrote_both item_most item_most s₁ s₂ s₃ a b c (item size 32) (item number 10) q r (omega (arith, p.end, p.few))) (omega arith)

pub word_wrote : (s s₁ s₂ : List ℕ) (at : ℕ) (w : List ℕ) (n r : ℕ) → s₁ ≡ put s at w → Wrote item_most s₁ (at + length w) (item n 10) r s₂ → at + length w + item_most ≤ length s
    → Wrote (length w + item_most) s at (w ++ item n 10) r s₂
word_wrote s s₁ s₂ at w n r p q h =
    wrote_both (length w) item_most s s₁ s₂ at (at + length w) r w (item n 10) (record { end = refl; few = omega arith; stands = p }) q (omega arith)

-- the two last lines
pub refused_lists : (out out' : List ℕ) (at used end n : ℕ) → at + line_most ≤ length out → Wrote 29 out at (refused_line n) end out'
    → Lists (closes (refused_line n)) used at out (record { used = used; written = end; place = Stage.Ended; wants = Wants.Nothing }) out'
refused_lists out out' at used end n h w =
    record { used = omega arith; written = w.end; place = refl; wants = refl; fits = omega (arith, w.few); stands = w.stands }

pub end_lists : (out out' : List ℕ) (at used end : ℕ) (over : Bool) (read left : ℕ) → over ≡ true → at + line_most ≤ length out → Wrote 25 out at (end_line left) end out'
    → Lists (closing over read left) used at out (record { used = used; written = end; place = Stage.Ended; wants = Wants.Nothing }) out'
unfolding closing choose
end_lists out out' at used end over read left e h w =
    subst (λ (b : Bool). Lists (closing b read left) used at out (record { used = used; written = end; place = Stage.Ended; wants = Wants.Nothing }) out') (sym e)
    (record { used = omega arith; written = w.end; place = refl; wants = refl; fits = omega (arith, w.few); stands = w.stands })

-- nothing is written where more bytes may come
pub more_lists : (out : List ℕ) (at used : ℕ) (over : Bool) (read : SequenceNumber) (left : ℕ) → over ≡ false → at + line_most ≤ length out
    → Lists (closing over read.0 left) used at out (record { used = used; written = at; place = Stage.After read; wants = Wants.Bytes }) out
unfolding closing choose
more_lists out at used over read left e h =
    subst (λ (b : Bool). Lists (closing b read.0 left) used at out (record { used = used; written = at; place = Stage.After read; wants = Wants.Bytes }) out) (sym e)
    (record { used = omega arith; written = omega arith; place = refl; wants = refl; fits = omega arith; stands = sym (put_none out at) })

-- the first line, and no room for it
pub opening_lists : (out out' : List ℕ) → line_most ≤ length out → out' ≡ put out 0 first_line
    → Lists (opening (length out)) 0 0 out (record { used = 0; written = 8; place = Stage.After (record { 0 = 0 }); wants = Wants.Room }) out'
unfolding opening choose first_line
opening_lists out out' h e =
    subst (λ (b : Bool). Lists (choose b (waits start room) (record { text = first_line; used = 0; point = after 0; want = room })) 0 0 out (record { used = 0; written = 8; place = Stage.After (record { 0 = 0 }); wants = Wants.Room }) out')
    (sym (le-ltb (length out) line_most h)) (record { used = refl; written = refl; place = refl; wants = refl; fits = omega arith; stands = e })

pub opening_waits : (out : List ℕ) → length out < line_most → Lists (opening (length out)) 0 0 out (record { used = 0; written = 0; place = Stage.Start; wants = Wants.Room }) out
unfolding opening choose
opening_waits out h =
    subst (λ (b : Bool). Lists (choose b (waits start room) (record { text = first_line; used = 0; point = after 0; want = room })) 0 0 out (record { used = 0; written = 0; place = Stage.Start; wants = Wants.Room }) out)
    (sym (lt-ltb (length out) line_most h)) (record { used = refl; written = refl; place = refl; wants = refl; fits = omega arith; stands = sym (put_none out 0) })

-- ---- What bytes begin with

module _ (read : ℕ) (s : List ℕ) (g : Begins) (e : says_begins g ≡ front_of little_order s) where
  ahead_by_lem : (x : Begins) → g ≡ x → ahead_by read s (says_begins x) ≡ ahead_of read s
  unfolding ahead_of
  ahead_by_lem x h = ap (ahead_by read s) (ap says_begins (sym h) ∙ e)

  pub ahead_nothing : g ≡ Begins.Nothing → none ≡ ahead_of read s
  unfolding ahead_by
  ahead_nothing h = ahead_by_lem Begins.Nothing h

  pub ahead_part : g ≡ Begins.Part → none ≡ ahead_of read s
  unfolding ahead_by
  ahead_part h = ahead_by_lem Begins.Part h

  pub ahead_long : g ≡ Begins.Long → refused 2 ≡ ahead_of read s
  unfolding ahead_by
  ahead_long h = ahead_by_lem Begins.Long h

  pub ahead_whole : (n : ℕ) (k : Class) → g ≡ Begins.Whole n k → (a : Result (Option Next) Refusal) → says_next a ≡ numbered_of read (take n s) → says_next a ≡ ahead_of read s
  unfolding ahead_by
  ahead_whole n k h a p = p ∙ ahead_by_lem (Begins.Whole n k) h

  pub whole_fits : (n : ℕ) (k : Class) → g ≡ Begins.Whole n k → (least_packet ≤ n) × (n ≤ length s)
  whole_fits n k h = let w = tells_whole little_order s n (says_class k) (ap says_begins (sym h) ∙ e) in (w.least, w.fits)

module _ (read : ℕ) (p : List ℕ) (g : Result SequenceNumber Refusal) (e : says_full g ≡ number_after little_order read p) where
  pub numbered_gives : (n : SequenceNumber) → g ≡ Ok n → says_next (Ok (Some (record { size = length p; number = n }))) ≡ numbered_of read p
  unfolding numbered_of with_number
  numbered_gives n h = ap (with_number (length p)) (ap says_full (sym h) ∙ e)

  pub numbered_refuses : (r : Refusal) → g ≡ Err r → says_next (Err r) ≡ numbered_of read p
  unfolding numbered_of with_number
  numbered_refuses r h = ap (with_number (length p)) (ap says_full (sym h) ∙ e)

-- a packet that is there has at least 32 bytes, and they are there
pub record Fits (s : List ℕ) (n : ℕ) : Type 0 where
  pub least : least_packet ≤ n
  pub most : n ≤ length s

with_number_lem : (n k m : ℕ) (a : Answer ℕ) → packet k m ≡ with_number n a → n ≡ k
unfolding with_number
with_number_lem n k m (gives x) e = cc
with_number_lem n k m (refuses x) e = absurd (let z : ◌≡◌ {A = ℕ} 0 1 = cc in omega arith)

pub packet_fits : (read : ℕ) (s : List ℕ) (n m : ℕ) → packet n m ≡ ahead_of read s → Fits s n
unfolding ahead_of ahead_by numbered_of
packet_fits read s n m e = go (front_of little_order s) refl e
  where
    go : (f : Front) → front_of little_order s ≡ f → packet n m ≡ ahead_by read s f → Fits s n
    go nothing p q = absurd (let z : ◌≡◌ {A = ℕ} 0 1 = cc in omega arith)
    go part p q = absurd (let z : ◌≡◌ {A = ℕ} 0 1 = cc in omega arith)
    go long p q = absurd (let z : ◌≡◌ {A = ℕ} 0 1 = cc in omega arith)
    go (whole k j) p q =
        let w = tells_whole little_order s k j (sym p) in
        let l : length (take k s) ≡ n = with_number_lem (length (take k s)) n m (number_after little_order read (take k s)) q in
        let t : length (take k s) ≡ k = length-take-le k s w.fits in
        record { least = omega (arith, w.least); most = omega (arith, w.fits) }
