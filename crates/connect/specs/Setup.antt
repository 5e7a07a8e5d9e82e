-- Core, Encoding, Connection Setup: the information received by the client. Assumes nothing.
--
-- If the connection is refused:
--      1     0                 Failed
--      1     n                 length of reason in bytes
--      2     CARD16            protocol-major-version
--      2     CARD16            protocol-minor-version
--      2     (n+p)/4           length in 4-byte units of "additional data"
--      n     STRING8           reason
--      p                       unused, p=pad(n)
-- If further authentication is required:
--      1     2                 Authenticate
--      5                       unused
--      2     (n+p)/4           length in 4-byte units of "additional data"
--      n     STRING8           reason
--      p                       unused, p=pad(n)
-- If the connection is accepted:
--      1     1                 Success
--      1                       unused
--      2     CARD16            protocol-major-version
--      2     CARD16            protocol-minor-version
--      2     8+2n+(v+p+m)/4    length in 4-byte units of "additional data"
--      4     CARD32            release-number
--      4     CARD32            resource-id-base
--      4     CARD32            resource-id-mask
--      4     CARD32            motion-buffer-size
--      2     v                 length of vendor
--      2     CARD16            maximum-request-length
--      1     CARD8             number of SCREENs in roots
--      1     n                 number for FORMATs in pixmap-formats
--      1                       image-byte-order
--      1                       bitmap-format-bit-order
--      1     CARD8             bitmap-format-scanline-unit
--      1     CARD8             bitmap-format-scanline-pad
--      1     KEYCODE           min-keycode
--      1     KEYCODE           max-keycode
--      4                       unused
--      v     STRING8           vendor
-- and then the formats and screens, which are not read here.
use Rattle.std.specs.Prelude.{◌≡◌, refl, not, List, ℕ, ◌+◌, ◌*◌, ltb, eqb, length, take, get_or, Result}
use Rattle.std.proofs.Common.{sym, ◌∙◌}
use Rattle.std.specs.Borrow.{Bor}
use Rattle.octets.specs.Logic.{choose}
use Rattle.octets.specs.Put.{cut}
use Rattle.octets.specs.Field.{field}
use Rattle.refusal.specs.Answer.{Answer, gives, refuses, refuse, says, says_one}
use Rattle.connect.specs.Handshake.{head, soundb}
use Rattle.connect.specs.declared.handshake.Connect.{Connect}
use Rattle.connect.specs.declared.reply.Setup.{Setup}
use Rattle.connect.specs.declared.reply.SetupFailed.{SetupFailed}
use Rattle.connect.specs.declared.reply.SetupAuthenticate.{SetupAuthenticate}
use Rattle.connect.specs.declared.reply.TextAt.{TextAt}
use Rattle.connect.specs.declared.reply.SetupAnswer.{SetupAnswer}
use Rattle.refusal.specs.declared.Refusal.{Refusal}

-- the first byte of a reply
abbrev pub failed_status : ℕ
failed_status = 0

abbrev pub success_status : ℕ
success_status = 1

abbrev pub authenticate_status : ℕ
authenticate_status = 2

-- the fixed bytes of a success
abbrev pub fixed : ℕ
fixed = 40

-- the fields of the reply p, at their places in the layouts
unfoldable pub failed_of : ℕ → List ℕ → SetupFailed
failed_of o p = record { reason = get_or p 1 0; major = field o 2 2 p; minor = field o 4 2 p; length = field o 6 2 p }

unfoldable pub authenticate_of : ℕ → List ℕ → SetupAuthenticate
authenticate_of o p = record { length = field o 6 2 p }

unfoldable pub setup_of : ℕ → List ℕ → Setup
setup_of o p = record {
  major = field o 2 2 p;
  minor = field o 4 2 p;
  length = field o 6 2 p;
  release = field o 8 4 p;
  base = field o 12 4 p;
  mask = field o 16 4 p;
  motion = field o 20 4 p;
  vendor = field o 24 2 p;
  request = field o 26 2 p;
  roots = get_or p 28 0;
  formats = get_or p 29 0;
  image = get_or p 30 0;
  bitmap = get_or p 31 0;
  unit = get_or p 32 0;
  pad = get_or p 33 0;
  first = get_or p 34 0;
  last = get_or p 35 0;
}

-- what a reply says
pub data Reading : Type 0 where
  failed : SetupFailed → Reading
  success : Setup → Reading
  authenticate : SetupAuthenticate → Reading

-- 14 where the reason, or the fixed bytes with the vendor's text, pass the reply's end
unfoldable pub read_failed : ℕ → List ℕ → Answer Reading
read_failed o p = refuse (ltb (length p) (head + (failed_of o p).reason)) 14 (gives (failed (failed_of o p)))

unfoldable pub read_success : ℕ → List ℕ → Answer Reading
read_success o p = refuse (ltb (length p) (fixed + (setup_of o p).vendor)) 14 (gives (success (setup_of o p)))

-- by the first byte; 14 for another one
unfoldable pub read_reply : ℕ → List ℕ → Answer Reading
read_reply o p =
    choose (eqb (get_or p 0 0) failed_status) (read_failed o p)
    (choose (eqb (get_or p 0 0) success_status) (read_success o p)
    (choose (eqb (get_or p 0 0) authenticate_status) (gives (authenticate (authenticate_of o p)))
    (refuses 14)))

-- `setup`: 9, 15 while the reply is not complete, 14; it reads the reply, which is the buffer up to the target
unfoldable pub setup : Connect → List ℕ → Answer Reading
setup c s =
    refuse (not (soundb c s)) 9 (refuse (not (eqb c.filled c.target)) 15 (read_reply c.order (take c.target s)))

-- no text
abbrev pub nowhere : TextAt
nowhere = record { start = 0; size = 0 }

-- the vendor's text: in a success, behind the fixed bytes
abbrev pub vendor_place : Answer Reading → TextAt
vendor_place (gives (failed x)) = nowhere
vendor_place (gives (success x)) = record { start = fixed; size = x.vendor }
vendor_place (gives (authenticate x)) = nowhere
vendor_place (refuses n) = nowhere

-- the reason: of a refused connection as long as byte 1 says, of further authentication all bytes after the eighth
abbrev pub reason_place : Answer Reading → TextAt
reason_place (gives (failed x)) = record { start = head; size = x.reason }
reason_place (gives (success x)) = nowhere
reason_place (gives (authenticate x)) = record { start = head; size = 4 * x.length }
reason_place (refuses n) = nowhere

-- the bytes of s at a place
abbrev pub text_at : TextAt → List ℕ → List ℕ
text_at a s = cut a.start a.size s

-- `vendor` and `reason` show p of the buffer b: the bytes at the place, where they stand in the buffer.
pub record Shown (a : TextAt) (b p : Bor (List ℕ)) : Type 0 where
  pub shows : p.now ≡ text_at a b.now
  pub stands : p.ref_ptr ≡ (b.ref_ptr.0, a.start + b.ref_ptr.1)

-- what the result says
abbrev pub says_reading : SetupAnswer → Reading
says_reading (SetupAnswer.Success x) = success x
says_reading (SetupAnswer.Failed x) = failed x
says_reading (SetupAnswer.Authenticate x) = authenticate x

abbrev pub says_setup : Result SetupAnswer Refusal → Answer Reading
says_setup = says says_reading

-- ---- laws

-- Two answers that say the same are equal.
back : Reading → SetupAnswer
back (failed x) = SetupAnswer.Failed x
back (success x) = SetupAnswer.Success x
back (authenticate x) = SetupAnswer.Authenticate x

pub setup_one : (a b : Result SetupAnswer Refusal) → says_setup a ≡ says_setup b → a ≡ b
unfolding back
setup_one = says_one _ back (elim [ SetupAnswer.Success x ↦ refl | SetupAnswer.Failed x ↦ refl | SetupAnswer.Authenticate x ↦ refl ])

-- Any two texts that `vendor`, or `reason`, may show are the same and stand in the same place.
pub shown_one : {a : TextAt} {b p q : Bor (List ℕ)} → Shown a b p → Shown a b q → (p.now ≡ q.now) × (p.ref_ptr ≡ q.ref_ptr)
shown_one x y = (x.shows ∙ sym y.shows, x.stands ∙ sym y.stands)
