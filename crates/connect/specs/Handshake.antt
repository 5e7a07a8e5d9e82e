-- The handshake over its lent buffer: when it is sound, and what its calls answer. Assumes nothing.
use Rattle.std.specs.Prelude.{◌≡◌, refl, Bool, not, List, ℕ, ◌+◌, ◌-◌, ◌*◌, leb, ltb, eqb, length, Result}
use Rattle.std.proofs.Common.{sym, ◌∙◌}
use Rattle.std.specs.Borrow.{MutBor}
use Rattle.octets.specs.Logic.{choose, both}
use Rattle.octets.specs.Bytes.{legal}
use Rattle.octets.specs.Put.{cut}
use Rattle.octets.specs.Field.{field}
use Rattle.refusal.specs.Answer.{Answer, gives, refuse, says, says_one}
use Rattle.connect.specs.declared.handshake.Connect.{Connect}
use Rattle.octets.specs.declared.Span.{Span}
use Rattle.connect.specs.declared.handshake.Advanced.{Advanced}
use Rattle.refusal.specs.declared.Refusal.{Refusal}

-- Core, Encoding, Connection Setup: whichever reply comes, its first eight bytes end in two that write the length in 4-byte units of the additional data behind them.
abbrev pub head : ℕ
head = 8

unfoldable pub reply_length : ℕ → List ℕ → ℕ
reply_length o s = head + 4 * field o 6 2 s

-- 01, Rooms: the bytes that a reply will have of which the first n are there: 8 until those are there
unfoldable pub aim : ℕ → List ℕ → ℕ → ℕ
aim o s n = choose (ltb n head) head (reply_length o s)

-- 01, Rooms: a setup buffer has 8 to 262,148 bytes, the most that a length of 16 bits can ask for: 8 + 4 × 65,535
abbrev pub most_buffer : ℕ
most_buffer = 262148

unfoldable pub room : ℕ → Bool
room n = both (leb head n) (leb n most_buffer)

-- 01, Rooms: the buffer's length is in range, the order is `l` or `B`, the target is what the bytes filled so far give, fits the buffer and isn't passed.
unfoldable pub soundb : Connect → List ℕ → Bool
soundb c s =
    both (room (length s))
    (both (legal c.order)
    (both (eqb c.target (aim c.order s c.filled))
    (both (leb c.target (length s)) (leb c.filled c.target))))

-- a handshake with nothing filled
abbrev pub fresh : ℕ → Connect
fresh o = record { order = o; filled = 0; target = head }

-- `new`: 9, 13
unfoldable pub made : ℕ → ℕ → Answer Connect
made o n = refuse (not (room n)) 9 (refuse (not (legal o)) 13 (gives (fresh o)))

-- `remaining_capacity`: 9
unfoldable pub capacity : Connect → List ℕ → Answer ℕ
capacity c s = refuse (not (soundb c s)) 9 (gives (c.target - c.filled))

-- `unfilled`: the part from the filled bytes to the target; none, at 0, where the handshake is unsound
unfoldable pub unfilled : Connect → List ℕ → Span
unfilled c s = choose (soundb c s) (record { start = c.filled; end = c.target }) (record { start = 0; end = 0 })

-- the bytes of a part
abbrev pub part : Span → List ℕ → List ℕ
part p s = cut p.start (p.end - p.start) s

-- `buffer` lends p of the buffer b: it shows the unfilled part, and stands where the part stands in the buffer (a place is a block of memory and an index in it).
pub record Lent (c : Connect) (b p : MutBor (List ℕ)) : Type 0 where
  pub shows : p.now ≡ part (unfilled c b.now) b.now
  pub stands : p.ref_ptr ≡ (b.ref_ptr.0, (unfilled c b.now).start + b.ref_ptr.1)

-- what a reply has come to
pub data Progress : Type 0 where
  waits : Connect → Progress
  complete : Connect → Progress

-- the handshake with the first n bytes of s filled
abbrev pub filled_to : ℕ → List ℕ → ℕ → Connect
filled_to o s n = record { order = o; filled = n; target = aim o s n }

-- with n bytes filled: 2 where the reply is longer than the buffer; otherwise it is complete once its target is reached
unfoldable pub reached : ℕ → List ℕ → ℕ → Answer Progress
reached o s n =
    refuse (ltb (length s) (aim o s n)) 2
    (gives (choose (eqb n (aim o s n)) (complete (filled_to o s n)) (waits (filled_to o s n))))

-- `advance`: 9, 7 for more bytes than the part has, 2
unfoldable pub advanced : Connect → List ℕ → ℕ → Answer Progress
advanced c s amount =
    refuse (not (soundb c s)) 9 (refuse (ltb (c.target - c.filled) amount) 7 (reached c.order s (c.filled + amount)))

-- what the results say
abbrev pub says_made : Result Connect Refusal → Answer Connect
says_made = says (λ c. c)

abbrev pub says_capacity : Result ℕ Refusal → Answer ℕ
says_capacity = says (λ n. n)

abbrev pub says_progress : Advanced → Progress
says_progress (Advanced.NotYet c) = waits c
says_progress (Advanced.Complete c) = complete c

abbrev pub says_advanced : Result Advanced Refusal → Answer Progress
says_advanced = says says_progress

-- ---- laws

-- Two answers that say the same are equal.
pub made_one : (a b : Result Connect Refusal) → says_made a ≡ says_made b → a ≡ b
made_one = says_one _ (λ c. c) (λ x. refl)

pub capacity_one : (a b : Result ℕ Refusal) → says_capacity a ≡ says_capacity b → a ≡ b
capacity_one = says_one _ (λ n. n) (λ x. refl)

back_progress : Progress → Advanced
back_progress (waits c) = Advanced.NotYet c
back_progress (complete c) = Advanced.Complete c

pub advanced_one : (a b : Result Advanced Refusal) → says_advanced a ≡ says_advanced b → a ≡ b
unfolding back_progress
advanced_one = says_one _ back_progress (elim [ Advanced.NotYet c ↦ refl | Advanced.Complete c ↦ refl ])

-- Any two parts that `buffer` may lend show the same and stand in the same place.
pub lent_one : {c : Connect} {b p q : MutBor (List ℕ)} → Lent c b p → Lent c b q → (p.now ≡ q.now) × (p.ref_ptr ≡ q.ref_ptr)
lent_one x y = (x.shows ∙ sym y.shows, x.stands ∙ sym y.stands)
