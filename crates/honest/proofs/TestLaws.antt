-- Laws of `specs/Test.antt`. Assumes nothing.
use Rattle.std.specs.Prelude.{Bool, true, false, List, [], ◌∷◌, ◌⊎◌, ◌≡◌, refl, ℕ, ◌≤◌, ◌<◌, leb, eqb}
use Rattle.std.proofs.Common.{inl, inr, ap, ◌∙◌, arith, leb-true, eqb-true}
use Rattle.octets.specs.Logic.{either, apart, both_left, both_right}
use Rattle.honest.specs.Run.{Entry, sent, took, WithReply, Heard, Fair, Honest}
use Rattle.honest.specs.Test.{numbers_asked, numbers_heard, every, among, fairb, honestb}

-- ---- A log that passes is honest.

every_heard : (f : ℕ → Bool) (l : List Entry) → every f (numbers_heard l) ≡ true → (u : ℕ) → Heard l u → f u ≡ true
unfolding every numbers_heard
every_heard f [] e u h = absurd h
every_heard f (sent has-reply ∷ l) e u h = every_heard f l e u h
every_heard f (took t p g ∷ l) e u (inl h) = ap f h ∙ both_left _ _ e
every_heard f (took t p g ∷ l) e u (inr h) = every_heard f l (both_right _ _ e) u h

every_asked : (f : ℕ → Bool) (l : List Entry) → every f (numbers_asked l) ≡ true → (u : ℕ) → WithReply l u → f u ≡ true
unfolding every numbers_asked
every_asked f [] e u h = absurd h
every_asked f (sent true ∷ l) e u (inl h) = ap f h ∙ both_left _ _ e
every_asked f (sent true ∷ l) e u (inr h) = every_asked f l (both_right _ _ e) u h
every_asked f (sent false ∷ l) e u h = every_asked f l e u h
every_asked f (took t p g ∷ l) e u h = every_asked f l e u h

either_cases : (a b : Bool) → either a b ≡ true → (a ≡ true) ⊎ (b ≡ true)
unfolding either
either_cases true b e = inl refl
either_cases false b e = inr e

among_heard : (q : ℕ) (l : List Entry) → among q (numbers_heard l) ≡ true → Heard l q
unfolding among numbers_heard
among_heard q [] e = apart e refl
among_heard q (sent has-reply ∷ l) e = among_heard q l e
among_heard q (took t p f ∷ l) e = go (either_cases _ _ e) (among_heard q l)
  where
    go : (eqb q t ≡ true) ⊎ (among q (numbers_heard l) ≡ true) → (among q (numbers_heard l) ≡ true → Heard l q) → (q ≡ t) ⊎ Heard l q
    go (inl a) f = inl (eqb-true _ _ a)
    go (inr a) f = inr (f a)

fair_by : (o : ℕ) (l : List Entry) (t : ℕ) (p : List ℕ) → fairb o l t p ≡ true → Fair o l t p
unfolding fairb
fair_by o l t p e =
    let a = both_left _ _ e in
    let b = both_right _ _ e in
    record {
      wire = eqb-true _ _ (both_left _ _ a);
      rises = λ u h. leb-true _ _ (every_heard (λ u. leb u t) l (both_right _ _ a) u h);
      known = leb-true _ _ (both_left _ _ b);
      answered = λ q k less. go q less (either_cases _ _ (every_asked (λ q. either (leb t q) (among q (numbers_heard l))) l (both_right _ _ b) q k));
    }
  where
    go : (q : ℕ) → q < t → (leb t q ≡ true) ⊎ (among q (numbers_heard l) ≡ true) → Heard l q
    go q less (inl a) = let z : t ≤ q = leb-true _ _ a in absurd (omega arith)
    go q less (inr a) = among_heard q l a

pub honest_by : (o : ℕ) (l : List Entry) → honestb o l ≡ true → Honest o l
unfolding honestb
honest_by o [] e = tt
honest_by o (sent has-reply ∷ l) e = honest_by o l e
honest_by o (took t p f ∷ l) e = (fair_by o l t p (both_left _ _ e), honest_by o l (both_right _ _ e))
