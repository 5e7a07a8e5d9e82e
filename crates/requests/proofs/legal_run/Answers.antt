use Rattle.std.proofs.Common.{◌≡◌, refl, sym, ap, ◌∙◌, Bool, true, false, List, [], ◌∷◌, ℕ, ◌+◌, ◌≤◌, ◌<◌, arith, le-leb, length, take, get_or, add-one, take-suc}
use borrow.Author.Tests.{lt-leb}
use Rattle.std.proofs.Math.Seq.{take-length}
use Rattle.octets.specs.Logic.{both}
use Rattle.octets.specs.Put.{cut}
use Rattle.requests.specs.Room.{last_byte, legal, legal_run}
use Rattle.requests.specs.Legal.{legal_append}
use Rattle.requests.proofs.legal_run.Goals as goal
use Rattle.requests.proofs.legal_run.Goals.{then-byte-gt-LAST_BYTE, else-byte-gt-LAST_BYTE}

-- a turn: the byte that it passes is legal or not
next : (l : List ℕ) (i : ℕ) → i < length l → legal_run (take (i + 1) l) ≡ both (legal_run (take i l)) (both (legal (get_or l i 0)) true)
unfolding legal_run
next l i h =
    ap (λ (n : ℕ). legal_run (take n l)) (add-one i) ∙ ap legal_run (take-suc l i 0 h) ∙ legal_append (take i l) (get_or l i 0 ∷ [])

good : (g g' : Bool) (l : List ℕ) (i : ℕ) → i < length l → get_or l i 0 ≤ last_byte → g' ≡ g → g ≡ legal_run (take i l) → g' ≡ legal_run (take (i + 1) l)
unfolding both legal
good g g' l i h b q e = q ∙ sym (next l i h ∙ simp (sym e, le-leb _ _ b) (same g))
  where
    same : (g : Bool) → both g true ≡ g
    same true = refl
    same false = refl

bad : (g' : Bool) (l : List ℕ) (i : ℕ) → i < length l → last_byte < get_or l i 0 → g' ≡ false → g' ≡ legal_run (take (i + 1) l)
unfolding both legal
bad g' l i h b q = q ∙ sym (next l i h ∙ simp (lt-leb _ _ b) (none (legal_run (take i l))))
  where
    none : (g : Bool) → both g false ≡ false
    none true = refl
    none false = refl

all : (l : List ℕ) (i : ℕ) → length l ≤ i → i ≤ length l → legal_run (take i l) ≡ legal_run l
all l i h f =
    let e : i ≡ length l = omega arith in
    ap (λ (n : ℕ). legal_run (take n l)) e ∙ ap legal_run (take-length l)

pub loop-byte-init : goal.loop-byte-init
unfolding legal_run
loop-byte-init c = refl

pub loop-byte-preserved : goal.loop-byte-preserved
loop-byte-preserved c =
    elim c.if-byte-gt-LAST_BYTE.branch [
      | then-byte-gt-LAST_BYTE w ↦ bad _ _ _ c.loop-byte-test.true w.if-byte-gt-LAST_BYTE.true w.good-is
      | else-byte-gt-LAST_BYTE w ↦ good _ _ _ _ c.loop-byte-test.true w.if-byte-gt-LAST_BYTE.false w.good-is c.loop-byte.invariant
    ]

pub returns : goal.returns
unfolding cut
returns c = c.loop-byte.invariant ∙ all _ _ c.loop-byte-test.false c.loop-byte.auto.byte-index-end
