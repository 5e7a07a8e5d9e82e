-- The seven sections of a savepoint, each where it stands. Assumes nothing.
use Rattle.std.specs.Prelude.{◌≡◌, true, List, [], ℕ, ◌+◌, ◌-◌, length}
use Rattle.std.proofs.Common.{sym, ap, ◌∙◌, arith, eq-eqb}
use Rattle.std.proofs.Math.Option.{some}
use Rattle.std.proofs.Math.Seq.{drop-length}
use Rattle.octets.specs.Logic.{both_yes}
use Rattle.octets.specs.Bytes.{little_order}
use Rattle.octets.specs.Put.{length_cut}
use Rattle.octets.specs.Field.{field}
use Rattle.refusal.specs.Answer.{gives}
use Rattle.requests.specs.declared.Request.{Request}
use Rattle.id_allocator.specs.declared.IdAllocator.{IdAllocator}
use Rattle.held.specs.Head as Head
use Rattle.model.specs.Client.{Held}
use Rattle.form.specs.Form.{Form, number, byte, pair, counted, writes}
use Rattle.form.specs.At.{Here}
use Rattle.form.proofs.At.{pair_reads}
use Rattle.savepoint.specs.Saved.{Sections, request, held, file, build, shaped, sound, decode}
use Rattle.savepoint.proofs.SavedLaws.{decode_some}
use Rattle.saving.specs.declared.finding.Plan.{Plan}

-- the sections by name, and what follows each
abbrev pub numbers : Form (List ℕ)
numbers = counted 4 (number 8)

abbrev pub requests : Form (List Request)
requests = counted 4 request

abbrev pub helds : ℕ → Form (List Held)
helds kind = counted 4 (held kind)

abbrev pub bytes : Form (List ℕ)
bytes = counted 4 byte

abbrev pub from_bytes : Form (List ℕ × List ℕ)
from_bytes = pair bytes numbers

abbrev pub from_events : Form (List Held × (List ℕ × List ℕ))
from_events = pair (helds Head.event) from_bytes

abbrev pub from_replies : Form (List Held × (List Held × (List ℕ × List ℕ)))
from_replies = pair (helds Head.reply) from_events

abbrev pub from_requests : Form (List Request × (List Held × (List Held × (List ℕ × List ℕ))))
from_requests = pair requests from_replies

abbrev pub from_settings : Form (List ℕ × (List Request × (List Held × (List Held × (List ℕ × List ℕ)))))
from_settings = pair numbers from_requests

pub record Found (s : List ℕ) (p : Plan) : Type 0 where
  pub numbers : Here (number 8) s 0 28
  pub settings : Here (number 8) s 28 72
  pub requests : Here request s 72 p.replies
  pub replies : Here (held Head.reply) s p.replies p.events
  pub events : Here (held Head.event) s p.events p.partial
  pub partial : Here byte s p.partial p.ids
  pub ids : Here (number 8) s p.ids (length s)
  pub three_numbers : length numbers.items ≡ 3
  pub five_settings : length settings.items ≡ 5
  pub three_ids : length ids.items ≡ 3

abbrev pub sections_of : {s : List ℕ} {p : Plan} → Found s p → Sections
sections_of f = (f.numbers.items, (f.settings.items, (f.requests.items, (f.replies.items, (f.events.items, (f.partial.items, f.ids.items))))))

-- the allocator of a section at an index
abbrev pub ids_at : List ℕ → ℕ → IdAllocator
ids_at s at = record { next = field little_order (at + 4) 8 s; last = field little_order (at + 12) 8 s; step = field little_order (at + 20) 8 s }

-- where the sections of a sound state stand
pub record Good (s : List ℕ) (p : Plan) : Type 0 where
  pub found : Found s p
  pub sound_is : sound (build (sections_of found)) ≡ true

-- ---- what was found is what is read

module _ {s : List ℕ} {p : Plan} (f : Found s p) where
  pub found_shaped : shaped (sections_of f) ≡ true
  unfolding shaped
  found_shaped = both_yes _ _ (eq-eqb _ _ f.three_numbers) (both_yes _ _ (eq-eqb _ _ f.five_settings) (eq-eqb _ _ f.three_ids))

  pub found_read : some (sections_of f, []) ≡ file.read s
  found_read =
      pair_reads numbers from_settings s 0 _ _ 28 [] f.numbers.reads
      (pair_reads numbers from_requests s 28 _ _ 72 [] f.settings.reads
      (pair_reads requests from_replies s 72 _ _ p.replies [] f.requests.reads
      (pair_reads (helds Head.reply) from_events s p.replies _ _ p.events [] f.replies.reads
      (pair_reads (helds Head.event) from_bytes s p.events _ _ p.partial [] f.events.reads
      (pair_reads bytes numbers s p.partial _ _ p.ids [] f.partial.reads (ap (λ (l : List ℕ). some (f.ids.items, l)) (sym (drop-length s)) ∙ f.ids.reads))))))

pub good_decodes : {s : List ℕ} {p : Plan} (g : Good s p) → gives (build (sections_of g.found)) ≡ decode s
good_decodes {s} g = decode_some s (sections_of g.found) (found_read g.found) (found_shaped g.found) g.sound_is

-- how long the items of a section are
pub here_long : {A : Type 0} (f : Form A) (s : List ℕ) (at end : ℕ) (H : Here f s at end) → length (writes f H.items) ≡ end - (at + 4)
here_long f s at end H = ap length (sym H.bytes) ∙ length_cut (at + 4) (end - (at + 4)) s (omega (arith, H.order, H.within))
