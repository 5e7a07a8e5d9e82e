-- 01, Refusal numbers: the table, with those of 02, M-100 and M-103. Assumes nothing.
use Rattle.std.specs.Prelude.{◌≡◌, refl, List, [], ◌∷◌, ℕ, ◌-◌, get_or}
use Rattle.refusal.specs.declared.Refusal.{Refusal}
use Rattle.refusal.specs.declared.Refusal.TheVariants.{ShortPacket, LongPacket, NumberEnd, FewDescriptors, NoRoom, SyncFirst, OverAdvance, OutShort, BadRoom, ZeroMask, IdsExhausted, BadRange, BadOrder, BadContent, Incomplete, LongAuth, HasDescriptors, BadSavepoint, Ahead}

-- the number that the table gives a refusal
abbrev pub number_of : Refusal → ℕ
number_of ShortPacket = 1
number_of LongPacket = 2
number_of NumberEnd = 3
number_of FewDescriptors = 4
number_of NoRoom = 5
number_of SyncFirst = 6
number_of OverAdvance = 7
number_of OutShort = 8
number_of BadRoom = 9
number_of ZeroMask = 10
number_of IdsExhausted = 11
number_of BadRange = 12
number_of BadOrder = 13
number_of BadContent = 14
number_of Incomplete = 15
number_of LongAuth = 16
number_of HasDescriptors = 18
number_of BadSavepoint = 19
number_of Ahead = 20

-- the refusals in the order of the table; the place of 17, which is no refusal's, is filled by another
unfoldable pub table : List Refusal
table =
    ShortPacket ∷ LongPacket ∷ NumberEnd ∷ FewDescriptors ∷ NoRoom ∷ SyncFirst ∷ OverAdvance ∷ OutShort ∷ BadRoom ∷ ZeroMask ∷ IdsExhausted ∷ BadRange ∷ BadOrder ∷ BadContent ∷ Incomplete
    ∷ LongAuth ∷ BadRoom ∷ HasDescriptors ∷ BadSavepoint ∷ Ahead ∷ []

-- the refusal of a number
unfoldable pub refusal_of : ℕ → Refusal
refusal_of n = get_or table (n - 1) BadRoom

-- A number says which refusal it is.
pub listed : (r : Refusal) → refusal_of (number_of r) ≡ r
unfolding refusal_of table
listed ShortPacket = refl
listed LongPacket = refl
listed NumberEnd = refl
listed FewDescriptors = refl
listed NoRoom = refl
listed SyncFirst = refl
listed OverAdvance = refl
listed OutShort = refl
listed BadRoom = refl
listed ZeroMask = refl
listed IdsExhausted = refl
listed BadRange = refl
listed BadOrder = refl
listed BadContent = refl
listed Incomplete = refl
listed LongAuth = refl
listed HasDescriptors = refl
listed BadSavepoint = refl
listed Ahead = refl
