-- Honesty as a test of a log. Assumes nothing.
use Rattle.std.specs.Prelude.{Bool, true, false, List, [], ◌∷◌, ℕ, ◌+◌, ◌%◌, leb, eqb}
use Rattle.octets.specs.Logic.{both, either}
use Rattle.sequence.specs.Numbering.{wire_values}
use Rattle.packet.specs.Packet.{wire_of}
use Rattle.honest.specs.Run.{Entry, sent, took, sends}

-- the numbers of the requests with a reply, and of the packets that came
unfoldable pub numbers_asked : List Entry → List ℕ
numbers_asked [] = []
numbers_asked (sent true ∷ l) = (sends l + 1) ∷ numbers_asked l
numbers_asked (sent false ∷ l) = numbers_asked l
numbers_asked (took t p f ∷ l) = numbers_asked l

unfoldable pub numbers_heard : List Entry → List ℕ
numbers_heard [] = []
numbers_heard (sent has-reply ∷ l) = numbers_heard l
numbers_heard (took t p f ∷ l) = t ∷ numbers_heard l

unfoldable pub every : (ℕ → Bool) → List ℕ → Bool
every f [] = true
every f (x ∷ l) = both (f x) (every f l)

unfoldable pub among : ℕ → List ℕ → Bool
among q [] = false
among q (x ∷ l) = either (eqb q x) (among q l)

unfoldable pub fairb : ℕ → List Entry → ℕ → List ℕ → Bool
fairb o l t p =
    both (both (eqb (wire_of o p) (t % wire_values)) (every (λ u. leb u t) (numbers_heard l)))
    (both (leb t (sends l)) (every (λ q. either (leb t q) (among q (numbers_heard l))) (numbers_asked l)))

unfoldable pub honestb : ℕ → List Entry → Bool
honestb o [] = true
honestb o (sent has-reply ∷ l) = honestb o l
honestb o (took t p f ∷ l) = both (fairb o l t p) (honestb o l)
