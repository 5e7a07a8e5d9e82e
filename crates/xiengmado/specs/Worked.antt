-- AN EXPORT WITH NUMBERS: `xm_send_request` of kind 3 and of kind 0. Each claim is `XmSendRequest state requests store slots kind number state' requests' number' r`, as the contract has it:
-- what is lent, then with a stroke what is there at exit, and the number returned. Assumes nothing.
use Rattle.std.specs.Prelude.{◌≡◌, refl, List, [], ◌∷◌, ℕ, replicate}
use Rattle.octets.specs.Logic.{choose, both, either}
use Rattle.octets.specs.Bytes.{legal}
use Rattle.octets.specs.Put.{cut}
use Rattle.refusal.specs.Answer.{gives, refuse, pass}
use Rattle.sequence.specs.Sending.{sending, must_sync}
use Rattle.requests.specs.Room as Room
use Rattle.held.specs.General as General
use Rattle.held.specs.Reading as Store
use Rattle.descriptors.specs.Room as Slots
use Rattle.model.specs.Model.{send_request}
use Rattle.model.specs.Reading.{with_descriptors, reads}
use Rattle.model.specs.Sound.{limitsb, runb, numbersb, holdsb, heldb, soundb}
use Rattle.model.specs.Promise.{answer_of, rooms_of, model_of, guarded}
use Rattle.sending.specs.Send.{sendable, send_exact}
use Rattle.rows.specs.State.{fits, connection_at, connection_of, connection_row}
use Rattle.answers.specs.Exported.{on, off, kept_by, kept_off}
use Rattle.xiengmado.specs.Exports.{XmSendRequest, xm_send_request_one}

-- ---- Kind 3

-- KIND 3 MEANS NOTHING. The test of the kind fails, so 9 is returned, and row, request room and number are as found, whatever they are.
pub kind_three : (state requests store slots : List ℕ) (number : ℕ) → XmSendRequest state requests store slots 3 number state requests number 9
kind_three state requests store slots number = kept_off (off refl refl)

-- ---- Kind 0

-- THE ROW of a connection after so many requests without a reply: byte order, K, S; last written, next reply expected, last read and first outstanding; where held records start and end; how many
-- descriptors are to be closed, are held and wait; four zeros
abbrev row : ℕ → List ℕ
row written = 108 ∷ 4 ∷ 48 ∷ written ∷ 0 ∷ 0 ∷ 1 ∷ 0 ∷ 0 ∷ 0 ∷ 0 ∷ 0 ∷ 0 ∷ 0 ∷ 0 ∷ 0 ∷ []

-- a store of 48 bytes, and 256 slots
abbrev store : List ℕ
store = replicate 48 0

abbrev slots : List ℕ
slots = replicate 256 0

-- KIND 0 ON A FRESH CONNECTION. The test holds, so the promise `Sends` of the call below decides: 0 is returned, the number of the request stands where 77 stood, the row has it as the last written, and
-- of the four request bytes that of number 1 is written (what the others hold is no state).
pub kind_none : XmSendRequest (row 0) (5 ∷ 5 ∷ 5 ∷ 5 ∷ []) store slots 0 77 (row 1) (5 ∷ 0 ∷ 5 ∷ 5 ∷ []) 1 0
unfolding answer_of rooms_of model_of guarded refuse pass soundb numbersb limitsb runb heldb holdsb both either choose legal cut sending must_sync Room.sized Room.legals Room.legal_run Room.legal Room.byte_at Room.byte_of Room.request_at Room.request_of Room.mode_of Room.upto Room.outstanding Room.put_request General.same Store.flat Store.read_up_to Store.read_all Store.records Store.only Store.fds_in Store.all Store.rising Store.fine Store.soundb Slots.sound Slots.closing Slots.holding Slots.waiting with_descriptors reads send_request sendable send_exact fits connection_of connection_row
kind_none = kept_by (gives (1, connection_at (row 1))) (on refl (record { exact = record { answers = refl; leaves = refl }; model = refl })) refl refl refl

-- NO OTHER OUTCOME is allowed.
pub no_other : {state' requests' : List ℕ} {number' r : ℕ} → XmSendRequest (row 0) (5 ∷ 5 ∷ 5 ∷ 5 ∷ []) store slots 0 77 state' requests' number' r
    → (state' ≡ row 1) × (requests' ≡ 5 ∷ 0 ∷ 5 ∷ 5 ∷ []) × (number' ≡ 1) × (r ≡ 0)
no_other x = xm_send_request_one (row 0) (5 ∷ 5 ∷ 5 ∷ 5 ∷ []) store slots 0 77 x kind_none
