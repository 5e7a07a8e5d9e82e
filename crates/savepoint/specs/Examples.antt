-- The worked file of docs/SAVEPOINT.md, computed: every field distinct, so that no two of them can change places, and none can be left out. Assumes nothing.
use Rattle.std.specs.Prelude.{◌≡◌, refl, true, false, [], ◌∷◌, map, ℕ, replicate}
use Rattle.octets.specs.Logic.{both, either, choose}
use Rattle.octets.specs.Bytes.{legal, low_bytes, turned, bytes_of}
use Rattle.packet.specs.Packet.{was_sent, class_of}
use Rattle.packet_reader.specs.Frame.{length_as, total_of, aim}
use Rattle.packet_reader.specs.Reader as Reader
use Rattle.id_allocator.specs.Ids as Ids
use Rattle.requests.specs.Room.{byte_of, put_request}
use Rattle.requests.specs.declared.Mode.{Mode}
use Rattle.requests.specs.declared.Mode.TheVariants.{Keep, DiscardReply, DiscardReplyAndError}
use Rattle.requests.specs.declared.Request.{Request}
use Rattle.held.specs.Head as Head
use Rattle.model.specs.Client.{Client, first, costs, held_packet}
use Rattle.form.specs.Form.{each, writes}
use Rattle.savepoint.specs.Saved.{Saved, held_fits, never_fall, in_numbers, in_range, sound_partial, sound, request_code, lay, encode}
use Rattle.savepoint.specs.Calls.{put_all, rows_of, connection_of, reader_of}

abbrev asked : Mode → Request
asked m = record { descriptors = false; mode = m }

abbrev with_fds : Mode → Request
with_fds m = record { descriptors = true; mode = m }

abbrev pub client : Client
client = record {
  order = 108;
  most_requests = 16;
  most_bytes = 4096;
  numbers = record { written = 70000; expected = 69999; read = 69998 };
  outstanding = asked DiscardReply ∷ with_fds DiscardReplyAndError ∷ asked Keep ∷ [];
  replies = held_packet 69996 (1 ∷ 7 ∷ 108 ∷ 17 ∷ 1 ∷ 0 ∷ 0 ∷ 0 ∷ 160 ∷ 161 ∷ 162 ∷ 163 ∷ 164 ∷ 165 ∷ 166 ∷ 167 ∷ 168 ∷ 169 ∷ 170 ∷ 171 ∷ 172 ∷ 173 ∷ 174 ∷ 175 ∷ 176 ∷ 177 ∷ 178 ∷ 179 ∷ 180 ∷ 181 ∷ 182 ∷ 183 ∷ 184 ∷ 185 ∷ 186 ∷ 187 ∷ []) [] ∷ [];
  events = held_packet 69997 (28 ∷ 0 ∷ 109 ∷ 17 ∷ 192 ∷ 193 ∷ 194 ∷ 195 ∷ 196 ∷ 197 ∷ 198 ∷ 199 ∷ 200 ∷ 201 ∷ 202 ∷ 203 ∷ 204 ∷ 205 ∷ 206 ∷ 207 ∷ 208 ∷ 209 ∷ 210 ∷ 211 ∷ 212 ∷ 213 ∷ 214 ∷ 215 ∷ 216 ∷ 217 ∷ 218 ∷ 219 ∷ []) [] ∷ [];
  waiting = [];
  closing = [];
}

abbrev pub worked : Saved
worked = record {
  client = client;
  reader = record { order = 66; room = 1024; filled = 1 ∷ 9 ∷ 17 ∷ 111 ∷ 0 ∷ [] };
  ids = record { next = 6291460; last = 8388606; step = 2 };
}

pub worked_sound : sound worked ≡ true
unfolding sound in_range in_numbers held_fits never_fall sound_partial each both either choose legal costs aim length_as class_of was_sent total_of Reader.room Ids.sound Ids.power_below
worked_sound = refl

-- its bytes, a line of the page to a line
pub worked_bytes : encode worked
    ≡ 3 ∷ 0 ∷ 0 ∷ 0
    ∷ 112 ∷ 17 ∷ 1 ∷ 0 ∷ 0 ∷ 0 ∷ 0 ∷ 0
    ∷ 111 ∷ 17 ∷ 1 ∷ 0 ∷ 0 ∷ 0 ∷ 0 ∷ 0
    ∷ 110 ∷ 17 ∷ 1 ∷ 0 ∷ 0 ∷ 0 ∷ 0 ∷ 0
    ∷ 5 ∷ 0 ∷ 0 ∷ 0
    ∷ 108 ∷ 0 ∷ 0 ∷ 0 ∷ 0 ∷ 0 ∷ 0 ∷ 0
    ∷ 16 ∷ 0 ∷ 0 ∷ 0 ∷ 0 ∷ 0 ∷ 0 ∷ 0
    ∷ 0 ∷ 16 ∷ 0 ∷ 0 ∷ 0 ∷ 0 ∷ 0 ∷ 0
    ∷ 66 ∷ 0 ∷ 0 ∷ 0 ∷ 0 ∷ 0 ∷ 0 ∷ 0
    ∷ 0 ∷ 4 ∷ 0 ∷ 0 ∷ 0 ∷ 0 ∷ 0 ∷ 0
    ∷ 3 ∷ 0 ∷ 0 ∷ 0
    ∷ 2
    ∷ 5
    ∷ 0
    ∷ 1 ∷ 0 ∷ 0 ∷ 0
    ∷ 108 ∷ 17 ∷ 1 ∷ 0 ∷ 0 ∷ 0 ∷ 0 ∷ 0
    ∷ 36 ∷ 0 ∷ 0 ∷ 0
    ∷ 0 ∷ 0 ∷ 0 ∷ 0
    ∷ 1 ∷ 7 ∷ 108 ∷ 17 ∷ 1 ∷ 0 ∷ 0 ∷ 0 ∷ 160 ∷ 161 ∷ 162 ∷ 163 ∷ 164 ∷ 165 ∷ 166 ∷ 167
    ∷ 168 ∷ 169 ∷ 170 ∷ 171 ∷ 172 ∷ 173 ∷ 174 ∷ 175 ∷ 176 ∷ 177 ∷ 178 ∷ 179 ∷ 180 ∷ 181 ∷ 182 ∷ 183
    ∷ 184 ∷ 185 ∷ 186 ∷ 187
    ∷ 1 ∷ 0 ∷ 0 ∷ 0
    ∷ 109 ∷ 17 ∷ 1 ∷ 0 ∷ 0 ∷ 0 ∷ 0 ∷ 0
    ∷ 32 ∷ 0 ∷ 0 ∷ 0
    ∷ 0 ∷ 1 ∷ 0 ∷ 0
    ∷ 28 ∷ 0 ∷ 109 ∷ 17 ∷ 192 ∷ 193 ∷ 194 ∷ 195 ∷ 196 ∷ 197 ∷ 198 ∷ 199 ∷ 200 ∷ 201 ∷ 202 ∷ 203
    ∷ 204 ∷ 205 ∷ 206 ∷ 207 ∷ 208 ∷ 209 ∷ 210 ∷ 211 ∷ 212 ∷ 213 ∷ 214 ∷ 215 ∷ 216 ∷ 217 ∷ 218 ∷ 219
    ∷ 5 ∷ 0 ∷ 0 ∷ 0
    ∷ 1 ∷ 9 ∷ 17 ∷ 111 ∷ 0
    ∷ 3 ∷ 0 ∷ 0 ∷ 0
    ∷ 4 ∷ 0 ∷ 96 ∷ 0 ∷ 0 ∷ 0 ∷ 0 ∷ 0
    ∷ 254 ∷ 255 ∷ 127 ∷ 0 ∷ 0 ∷ 0 ∷ 0 ∷ 0
    ∷ 2 ∷ 0 ∷ 0 ∷ 0 ∷ 0 ∷ 0 ∷ 0 ∷ 0
    ∷ []
unfolding encode lay request_code writes Head.encoded bytes_of turned low_bytes choose
worked_bytes = refl

-- the six codes of a request
pub codes : map request_code (asked Keep ∷ with_fds Keep ∷ asked DiscardReply ∷ with_fds DiscardReply ∷ asked DiscardReplyAndError ∷ with_fds DiscardReplyAndError ∷ []) ≡ 0 ∷ 1 ∷ 2 ∷ 3 ∷ 4 ∷ 5 ∷ []
unfolding request_code choose
codes = refl

-- The same client laid into rooms that were full of nines: each request in the slot of its number, the rest of the room as lent; replies, then events.
pub worked_requests : put_all (replicate 16 9) 69998 client.outstanding ≡ 0 ∷ 9 ∷ 9 ∷ 9 ∷ 9 ∷ 9 ∷ 9 ∷ 9 ∷ 9 ∷ 9 ∷ 9 ∷ 9 ∷ 9 ∷ 9 ∷ 2 ∷ 5 ∷ []
unfolding put_all put_request byte_of choose
worked_requests = refl

pub worked_first : first client ≡ 69998
worked_first = refl

abbrev kind_in : Head.Record → ℕ × ℕ
kind_in h = (h.number, h.kind)

pub worked_rows : map kind_in (rows_of client) ≡ (69996, 0) ∷ (69997, 1) ∷ []
worked_rows = refl

pub worked_window : ((connection_of client).window.end ≡ 100) × ((reader_of worked.reader).target ≡ 32)
unfolding costs aim choose
worked_window = (refl, refl)
