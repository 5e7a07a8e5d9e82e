-- Forms, computed: fields all distinct, so that no two of them can change places. Assumes nothing.
use Rattle.std.specs.Prelude.{◌≡◌, refl, [], ◌∷◌}
use Rattle.std.proofs.Math.Option.{none, some}
use Rattle.octets.specs.Logic.{choose}
use Rattle.octets.specs.Bytes.{low_bytes, low_number, turned, bytes_of, number_in}
use Rattle.form.specs.Form.{when, and_then, number, byte, read_byte, pair, writes, read_some, counted}

-- a number's least significant byte is first, and what stands behind it is left
pub number_written : (number 4).write 67305985 ≡ 1 ∷ 2 ∷ 3 ∷ 4 ∷ []
unfolding bytes_of turned low_bytes choose
number_written = refl

pub number_read : (number 2).read (1 ∷ 2 ∷ 3 ∷ []) ≡ some (513, 3 ∷ [])
unfolding when number_in turned low_number choose
number_read = refl

-- a count of two bytes, then the items, each of one; three stand there, and a byte is left
pub section_read : (counted 2 byte).read (3 ∷ 0 ∷ 7 ∷ 8 ∷ 9 ∷ 5 ∷ []) ≡ some (7 ∷ 8 ∷ 9 ∷ [], 5 ∷ [])
unfolding when and_then read_some read_byte number_in turned low_number choose
section_read = refl

pub section_written : (counted 2 byte).write (7 ∷ 8 ∷ 9 ∷ []) ≡ 3 ∷ 0 ∷ 7 ∷ 8 ∷ 9 ∷ []
unfolding writes bytes_of turned low_bytes choose
section_written = refl

-- one item fewer than the count says
pub section_short : (counted 2 byte).read (3 ∷ 0 ∷ 7 ∷ 8 ∷ []) ≡ none
unfolding when and_then read_some read_byte number_in turned low_number choose
section_short = refl

-- the first of a pair stands first
pub pair_written : (pair (number 1) (counted 1 byte)).write (6, 7 ∷ 8 ∷ []) ≡ 6 ∷ 2 ∷ 7 ∷ 8 ∷ []
unfolding writes bytes_of turned low_bytes choose
pair_written = refl

pub pair_read : (pair (number 1) (counted 1 byte)).read (6 ∷ 2 ∷ 7 ∷ 8 ∷ 9 ∷ []) ≡ some ((6, 7 ∷ 8 ∷ []), 9 ∷ [])
unfolding when and_then read_some read_byte number_in turned low_number choose
pair_read = refl
