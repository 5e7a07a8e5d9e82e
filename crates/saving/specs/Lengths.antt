-- How many bytes a savepoint has. Assumes nothing.
use Rattle.std.specs.Prelude.{◌≡◌, true, List, ◌++◌, map, ℕ, ◌+◌, ◌*◌, length, take}
use Rattle.std.proofs.Common.{ap, ◌∙◌, arith, length-append, length-take-le}
use Rattle.octets.specs.Logic.{both_left, both_right}
use Rattle.octets.specs.Bytes.{little_order, word, length_bytes_of}
use Rattle.packet_reader.specs.Sound as Reader
use Rattle.requests.specs.declared.Request.{Request}
use Rattle.held.specs.Head as Head
use Rattle.held.specs.Reading as Store
use Rattle.held.specs.Rows.{length_flat}
use Rattle.model.specs.Client.{Held, costs, used}
use Rattle.model.specs.Reading.{count}
use Rattle.model.specs.ReadingLaws.{length_out, used_read}
use Rattle.model.specs.Sound as Connection
use Rattle.form.specs.Form.{Form, number, byte, counted, writes}
use Rattle.savepoint.specs.Saved.{Saved, request, row_of, held, lay, encode}
use Rattle.savepoint.proofs.Items.{writes_flat}
use Rattle.savepoint.specs.Calls.{Laid, saved_of, soundb}
use Rattle.savepoint.proofs.Placed.{costs_rows}
use Rattle.form.proofs.At.{length_numbers as words, bytes_written}
use Rattle.saving.specs.Writing.{length_codes}

-- ---- sections

headed : {A : Type 0} (f : Form A) (l : List A) → length ((counted 4 f).write l) ≡ 4 + length (writes f l)
headed f l = length-append (word 4 (length l)) (writes f l) ∙ ap (λ (n : ℕ). n + length (writes f l)) (length_bytes_of little_order 4 (length l))

pub length_numbers : (l : List ℕ) → length ((counted 4 (number 8)).write l) ≡ 4 + 8 * length l
length_numbers l = headed (number 8) l ∙ ap (λ (n : ℕ). 4 + n) (words l)

pub length_requests : (l : List Request) → length ((counted 4 request).write l) ≡ 4 + length l
length_requests l = headed request l ∙ ap (λ (n : ℕ). 4 + n) (length_codes l)

pub length_bytes : (l : List ℕ) → length ((counted 4 byte).write l) ≡ 4 + length l
length_bytes l = headed byte l ∙ ap (λ (m : List ℕ). 4 + length m) (bytes_written l)

pub length_helds : (kind : ℕ) (l : List Held) → length (writes (held kind) l) ≡ costs l
length_helds kind l = ap length (writes_flat kind l) ∙ length_flat (map (row_of kind) l) ∙ costs_rows kind l

length_held : (kind : ℕ) (l : List Held) → length ((counted 4 (held kind)).write l) ≡ 4 + costs l
length_held kind l = headed (held kind) l ∙ ap (λ (n : ℕ). 4 + n) (length_helds kind l)

-- ---- the file

-- seven in a row
pub length_seven : (a b c d e f g : List ℕ) → length (a ++ (b ++ (c ++ (d ++ (e ++ (f ++ g)))))) ≡ length a + (length b + (length c + (length d + (length e + (length f + length g)))))
length_seven a b c d e f g = simp length-append

pub length_saved : (s : Saved) → length (encode s) ≡ 116 + (length s.client.outstanding + used s.client + length s.reader.filled)
unfolding encode lay
length_saved s =
    let x = lay s in
    let l = length_seven ((counted 4 (number 8)).write x.0) ((counted 4 (number 8)).write x.1.0) ((counted 4 request).write s.client.outstanding) ((counted 4 (held Head.reply)).write s.client.replies) ((counted 4 (held Head.event)).write s.client.events) ((counted 4 byte).write s.reader.filled) ((counted 4 (number 8)).write x.1.1.1.1.1.1) in
    omega (arith, l, length_numbers x.0, length_numbers x.1.0, length_requests s.client.outstanding, length_held Head.reply s.client.replies, length_held Head.event s.client.events, length_bytes s.reader.filled, length_numbers x.1.1.1.1.1.1)

-- OF A SOUND CLIENT: 116, a byte for each outstanding request, what is used of the store, and the bytes filled
pub length_encode : (x : Laid) → soundb x ≡ true → length (encode (saved_of x)) ≡ 116 + (count x.connection + Store.used x.connection.window + x.reader.filled)
unfolding soundb
length_encode x h =
    let S = Connection.sound_is x.connection x.rooms (both_left _ _ h) in
    let R = Reader.sound_is x.reader x.buffer (both_left _ _ (both_right _ _ h)) in
    let f : length (take x.reader.filled x.buffer) ≡ x.reader.filled = length-take-le x.reader.filled x.buffer (omega (arith, R.not_reached, R.target_fits)) in
    omega (arith, length_saved (saved_of x), length_out x.connection x.rooms S, used_read x.connection x.rooms S, f)
