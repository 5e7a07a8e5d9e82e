-- 02, M-100: WHAT A SAVEPOINT HOLDS, when that is sound, and its file. Assumes nothing.
use Rattle.std.specs.Prelude.{Bool, true, not, List, [], ◌∷◌, ℕ, ◌+◌, ◌*◌, ◌/◌, ◌%◌, leb, ltb, eqb, length, get_or, take, drop}
use Rattle.std.proofs.Math.Option.{Option, none, some}
use Rattle.octets.specs.Logic.{choose, both}
use Rattle.octets.specs.Bytes.{legal}
use Rattle.refusal.specs.Answer.{Answer, gives, refuses, refuse}
use Rattle.sequence.specs.Numbering.{last_number}
use Rattle.packet.specs.Packet.{least_packet, most_packet}
use Rattle.packet_reader.specs.Frame.{aim}
use Rattle.packet_reader.specs.Reader as Reader
use Rattle.id_allocator.specs.Ids as Ids
use Rattle.id_allocator.specs.declared.IdAllocator.{IdAllocator}
use Rattle.requests.specs.Room.{requests_most}
use Rattle.requests.specs.declared.Mode.{Mode}
use Rattle.requests.specs.declared.Mode.TheVariants.{Keep, DiscardReply, DiscardReplyAndError}
use Rattle.requests.specs.declared.Request.{Request}
use Rattle.held.specs.General.{same}
use Rattle.held.specs.Head as Head
use Rattle.held.specs.Head.{most_store}
use Rattle.model.specs.Client.{Held, Client, held_packet, used}
use Rattle.model.specs.Model.{least_store}
use Rattle.form.specs.Form.{Form, when, number, byte, pair, each, counted}

-- ---- the state of one client

-- What a reader has: its byte order, the length of its buffer (P), and the bytes of the packet so far. How many are wanted follows from them.
pub record Partial : Type 0 where
  pub order : ℕ
  pub room : ℕ
  pub filled : List ℕ

abbrev pub target : Partial → ℕ
target p = aim p.order p.filled (length p.filled)

pub record Saved : Type 0 where
  pub client : Client
  pub reader : Partial
  pub ids : IdAllocator

-- ---- when it is sound, as a test: document 01's sentences for the connection, without descriptors, for the reader and for the allocator

unfoldable pub held_fits : ℕ → Held → Bool
held_fits last h = both (leb least_packet (length h.packet)) (both (leb (length h.packet) most_packet) (both (leb h.number last) (eqb (length h.descriptors) 0)))

unfoldable pub never_fall : ℕ → List Held → Bool
never_fall from [] = true
never_fall from (h ∷ l) = both (leb from h.number) (never_fall h.number l)

-- the numbers, with how many requests are outstanding
unfoldable pub in_numbers : Client → Bool
in_numbers m =
    both (legal m.order)
    (both (leb 1 m.most_requests)
    (both (leb m.most_requests requests_most)
    (both (leb least_store m.most_bytes)
    (both (leb m.most_bytes most_store)
    (both (leb m.numbers.written last_number)
    (both (leb m.numbers.expected last_number)
    (both (leb m.numbers.read last_number)
    (both (leb (length m.outstanding) m.numbers.written) (leb (length m.outstanding) m.most_requests)))))))))

unfoldable pub in_range : Client → Bool
in_range m =
    both (in_numbers m)
    (both (each (held_fits m.numbers.read) m.replies)
    (both (each (held_fits m.numbers.read) m.events)
    (both (never_fall 0 m.replies)
    (both (leb (used m) m.most_bytes)
    (both (eqb (length m.waiting) 0) (eqb (length m.closing) 0))))))

unfoldable pub sound_partial : Partial → Bool
sound_partial p = both (Reader.room p.room) (both (legal p.order) (both (leb (target p) p.room) (ltb (length p.filled) (target p))))

unfoldable pub sound : Saved → Bool
sound s = both (in_range s.client) (both (sound_partial s.reader) (Ids.sound s.ids))

-- ---- the items of the file

-- an outstanding request, in a byte of the file's own: twice its mode, and 1 if its reply has descriptors
abbrev pub mode_code : Mode → ℕ
mode_code Keep = 0
mode_code DiscardReply = 1
mode_code DiscardReplyAndError = 2

unfoldable pub request_code : Request → ℕ
request_code r = 2 * mode_code r.mode + choose r.descriptors 1 0

unfoldable pub code_mode : ℕ → Mode
code_mode n = choose (eqb n 0) Keep (choose (eqb n 1) DiscardReply DiscardReplyAndError)

unfoldable pub code_request : ℕ → Request
code_request b = record { descriptors = eqb (b % 2) 1; mode = code_mode (b / 2) }

abbrev pub last_code : ℕ
last_code = 5

unfoldable pub read_request : List ℕ → Option (Request × List ℕ)
read_request [] = none
read_request (b ∷ s) = when (leb b last_code) (some (code_request b, s))

abbrev pub request : Form Request
request = record { fits = λ r. true; write = λ r. request_code r ∷ []; read = read_request }

-- a held packet without descriptors, as the record of its kind that a store has of it: its number, its length, its bytes
abbrev pub row_of : ℕ → Held → Head.Record
row_of kind h = Head.held h.number 0 kind h.packet

abbrev pub held_of : Head.Record → Held
held_of h = held_packet h.number h.packet []

-- bytes begin with such a record: what is read there fits, is of the kind, has no descriptors, and is written as those bytes
unfoldable pub begins : ℕ → List ℕ → Bool
begins kind x =
    let h = Head.decoded x in
    both (both (Head.fits h) (same (take (Head.cost h) x) (Head.encoded h))) (both (eqb h.kind kind) (eqb h.fds 0))

abbrev pub held : ℕ → Form Held
held kind = record {
  fits = λ h. both (Head.fits (row_of kind h)) (eqb (length h.descriptors) 0);
  write = λ h. Head.encoded (row_of kind h);
  read = λ x. when (begins kind x) (some (held_of (Head.decoded x), drop (Head.cost (Head.decoded x)) x));
}

-- ---- THE FILE: "sections in a fixed order, each after its count: numbers, byte order and room lengths, outstanding requests, replies, events, the partial packet, the id allocator"

abbrev pub Sections : Type 0
Sections = List ℕ × (List ℕ × (List Request × (List Held × (List Held × (List ℕ × List ℕ)))))

abbrev pub file : Form Sections
file =
    pair (counted 4 (number 8))
    (pair (counted 4 (number 8))
    (pair (counted 4 request)
    (pair (counted 4 (held Head.reply))
    (pair (counted 4 (held Head.event))
    (pair (counted 4 byte) (counted 4 (number 8)))))))

-- a state as sections
unfoldable pub lay : Saved → Sections
lay s =
    let c = s.client in let r = s.reader in let a = s.ids in (
      c.numbers.written ∷ c.numbers.expected ∷ c.numbers.read ∷ [],
      (
        c.order ∷ c.most_requests ∷ c.most_bytes ∷ r.order ∷ r.room ∷ [],
        (c.outstanding, (c.replies, (c.events, (r.filled, a.next ∷ a.last ∷ a.step ∷ [])))),
      ),
    )

-- THE BYTES OF A STATE
unfoldable pub encode : Saved → List ℕ
encode s = file.write (lay s)

-- and back: three numbers, two orders with three lengths, three numbers
unfoldable pub build : Sections → Saved
build (n, (g, (q, (r, (e, (p, a)))))) = record {
  client = record {
    order = get_or g 0 0;
    most_requests = get_or g 1 0;
    most_bytes = get_or g 2 0;
    numbers = record { written = get_or n 0 0; expected = get_or n 1 0; read = get_or n 2 0 };
    outstanding = q;
    replies = r;
    events = e;
    waiting = [];
    closing = [];
  };
  reader = record { order = get_or g 3 0; room = get_or g 4 0; filled = p };
  ids = record { next = get_or a 0 0; last = get_or a 1 0; step = get_or a 2 0 };
}

unfoldable pub shaped : Sections → Bool
shaped x = both (eqb (length x.0) 3) (both (eqb (length x.1.0) 5) (eqb (length x.1.1.1.1.1.1) 3))

-- THE STATE OF BYTES: 19 unless they are such sections, to the last byte, of a sound state
unfoldable pub accepted : Sections → List ℕ → Bool
accepted x rest = both (eqb (length rest) 0) (both (shaped x) (sound (build x)))

unfoldable pub taken : Option (Sections × List ℕ) → Answer Saved
taken none = refuses 19
taken (some p) = refuse (not (accepted p.0 p.1)) 19 (gives (build p.0))

unfoldable pub decode : List ℕ → Answer Saved
decode s = taken (file.read s)
