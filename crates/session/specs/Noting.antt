-- What `enqueue_packets` adds to the log of a session: the packets that it took, one after the other. Definitions only. Assumes nothing.
use Rattle.std.specs.Prelude.{List, [], ◌∷◌, ℕ}
use Rattle.refusal.specs.Answer.{Answer, gives, refuses}
use Rattle.packet_reader.specs.Frame.{cut_packets}
use Rattle.model.specs.Client.{Client}
use Rattle.model.specs.Batch.{notes}
use Rattle.model.specs.Feed.{Took, Feeding}
use Rattle.batch.specs.Feed.{enqueue_packets}
use Rattle.honest.specs.Run.{Entry, note_took}

-- the true numbers of the packets ahead, which are the server's and which no call sees; and the log so far
pub record Noting : Type 0 where
  pub numbers : List ℕ
  pub log : List Entry

abbrev pub noting : List ℕ → List Entry → Noting
noting ts l = record { numbers = ts; log = l }

-- the next true number, and those behind it
abbrev pub next : List ℕ → ℕ
next [] = 0
next (t ∷ ts) = t

abbrev pub rest : List ℕ → List ℕ
rest [] = []
rest (t ∷ ts) = ts

-- a packet that was taken is noted as `enqueue_packet` notes it
unfoldable pub note_packet : List ℕ → Took → Noting → Noting
note_packet p v n = noting (rest n.numbers) (note_took (next n.numbers) p (gives (v.filing, tt {0})) n.log)

-- what was taken, in the model
unfoldable pub took_of : Answer (Feeding × Client) → List Took
took_of (gives x) = x.0.packets
took_of (refuses n) = []

-- ts are the true numbers of the packets that the bytes are cut into
unfoldable pub note_fed : {A : Type 0} → List ℕ → Client → List ℕ → Answer A → List Entry → List Entry
note_fed ts m bytes (gives x) l = (notes note_packet (cut_packets m.order bytes).packets (took_of (enqueue_packets m bytes)) (noting ts l)).log
note_fed ts m bytes (refuses n) l = l
