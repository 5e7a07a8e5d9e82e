-- XC-MISC, Encoding: the replies. Assumes nothing.
--
-- Each begins with
--      1     1          Reply
--      1                unused
--      2     CARD16     sequence number
--      4     CARD32     length
-- and goes on at byte 8 with
--      XCMiscGetVersion:   2 CARD16 server_major_version, 2 CARD16 server_minor_version
--      XCMiscGetXIDRange:  4 XID start_id, 4 CARD32 count
--      XCMiscGetXIDList:   4 CARD32 number of XIDs in ids, 20 unused, and at byte 32 the ids, 4 bytes each
use Rattle.std.specs.Prelude.{◌≡◌, refl, Bool, true, false, not, List, ℕ, ◌+◌, ◌*◌, ◌≤◌, ◌<◌, leb, ltb, length, Result}
use Rattle.std.proofs.Common.{sym, ap, ◌∙◌, lt-ltb, le-ltb, leb-true}
use Rattle.std.proofs.lemmas.Bool.{not-false}
use Rattle.octets.specs.Field.{field, fields}
use Rattle.octets.specs.Lent.{leaves}
use Rattle.octets.specs.Put.{put}
use Rattle.refusal.specs.Answer.{Answer, gives, refuses, refuse, after, gives_past, after_given, after_refused, after_check, after_rest, says, says_one}
use Rattle.packet.specs.Packet.{least_packet, reply_code, length_at, wire_number}
use Rattle.x11_utils.specs.Packet.{checked, ready_long}
use Rattle.xc_misc.specs.declared.reply.GetVersionReply.{GetVersionReply}
use Rattle.xc_misc.specs.declared.reply.GetXIDRangeReply.{GetXIDRangeReply}
use Rattle.xc_misc.specs.declared.reply.GetXIDListReply.{GetXIDListReply}
use Rattle.refusal.specs.declared.Refusal.{Refusal}

-- where a list has its count of ids
abbrev pub count_at : ℕ
count_at = 8

-- the fields of each reply
unfoldable pub version_of : ℕ → List ℕ → GetVersionReply
version_of o p = record { sequence = wire_number o p; length = field o length_at 4 p; major = field o 8 2 p; minor = field o 10 2 p }

unfoldable pub range_of : ℕ → List ℕ → GetXIDRangeReply
range_of o p = record { sequence = wire_number o p; length = field o length_at 4 p; start = field o 8 4 p; count = field o 12 4 p }

unfoldable pub list_of : ℕ → List ℕ → GetXIDListReply
list_of o p = record { sequence = wire_number o p; length = field o length_at 4 p; count = field o count_at 4 p }

unfoldable pub ids_of : ℕ → ℕ → List ℕ → List ℕ
ids_of o count p = fields o 4 least_packet count p

-- 01, What is ported: 32 bytes and so many units of four are within n bytes
unfoldable pub reaches : ℕ → ℕ → Bool
reaches n units = leb (least_packet + 4 * units) n

-- 14 where the units that a field counts pass the end of the bytes given
unfoldable pub units_checked : ℕ → List ℕ → ℕ → Answer Unit
units_checked o p at = refuse (not (reaches (length p) (field o at 4 p))) 14 (gives tt)

-- 1, 2, 13, 14 for any packet, then 14 for the length; in a list also for the count of ids
unfoldable pub reply_checked : ℕ → List ℕ → Answer Unit
reply_checked o p = after (checked o p reply_code) (units_checked o p length_at)

unfoldable pub list_checked : ℕ → List ℕ → Answer Unit
list_checked o p = after (reply_checked o p) (units_checked o p count_at)

-- The answers for a reply's bytes.
unfoldable pub version : ℕ → List ℕ → Answer GetVersionReply
version o p = after (reply_checked o p) (gives (version_of o p))

unfoldable pub range : ℕ → List ℕ → Answer GetXIDRangeReply
range o p = after (reply_checked o p) (gives (range_of o p))

-- 8 where the lent room has fewer places than there are ids
unfoldable pub list : ℕ → List ℕ → ℕ → Answer GetXIDListReply
list o p places = after (list_checked o p) (refuse (ltb places (list_of o p).count) 8 (gives (list_of o p)))

-- A list's answer, and the ids in the lent room.
pub record Lists (o : ℕ) (p before : List ℕ) (a : Answer GetXIDListReply) (left : List ℕ) : Type 0 where
  pub answers : a ≡ list o p (length before)
  pub left_is : left ≡ leaves a (ids_of o (list_of o p).count p) before

-- what the results say
abbrev pub says_version : Result GetVersionReply Refusal → Answer GetVersionReply
says_version = says (λ x. x)

abbrev pub says_range : Result GetXIDRangeReply Refusal → Answer GetXIDRangeReply
says_range = says (λ x. x)

abbrev pub says_list : Result GetXIDListReply Refusal → Answer GetXIDListReply
says_list = says (λ x. x)

-- ---- laws

-- what is known of a reply that passed
pub reply_long : (o : ℕ) (p : List ℕ) → gives tt ≡ reply_checked o p → least_packet ≤ length p
unfolding reply_checked
reply_long o p e = ready_long o p reply_code (after_check _ _ e)

pub list_long : (o : ℕ) (p : List ℕ) → gives tt ≡ list_checked o p → least_packet ≤ length p
unfolding list_checked
list_long o p e = reply_long o p (after_check _ _ e)

pub list_whole : (o : ℕ) (p : List ℕ) → gives tt ≡ list_checked o p → least_packet + 4 * (list_of o p).count ≤ length p
unfolding list_checked units_checked reaches list_of
list_whole o p e = leb-true _ _ (not-false _ (gives_past _ 14 (gives tt) (after_rest (reply_checked o p) (units_checked o p count_at) e)))

-- how a list is answered: by its check, for want of room, or with its ids
pub lists_refused : (o : ℕ) (p before : List ℕ) (n : ℕ) → refuses n ≡ list_checked o p → Lists o p before (refuses n) before
unfolding list
lists_refused o p before n e = record { answers = after_refused _ e; left_is = refl }

pub lists_short : (o : ℕ) (p before : List ℕ) (r : GetXIDListReply) → gives tt ≡ list_checked o p → r ≡ list_of o p → length before < r.count
    → Lists o p before (refuses 8) before
unfolding list refuse
lists_short o p before r e q h =
    let t : ltb (length before) (list_of o p).count ≡ true = ap (λ (x : GetXIDListReply). ltb (length before) x.count) (sym q) ∙ lt-ltb _ _ h in
    record { answers = simp t (after_given _ e); left_is = refl }

pub lists_given : (o : ℕ) (p before left : List ℕ) (r : GetXIDListReply) → gives tt ≡ list_checked o p → r ≡ list_of o p → r.count ≤ length before
    → left ≡ put before 0 (ids_of o r.count p) → Lists o p before (gives r) left
unfolding list refuse
lists_given o p before left r e q h f =
    let t : ltb (length before) (list_of o p).count ≡ false = ap (λ (x : GetXIDListReply). ltb (length before) x.count) (sym q) ∙ le-ltb _ _ h in
    record { answers = ap gives q ∙ (simp t (after_given _ e)); left_is = f ∙ ap (λ (x : GetXIDListReply). put before 0 (ids_of o x.count p)) q }

-- Two answers that say the same are equal.

pub version_one : (a b : Result GetVersionReply Refusal) → says_version a ≡ says_version b → a ≡ b
version_one = says_one _ (λ x. x) (λ x. refl)

pub range_one : (a b : Result GetXIDRangeReply Refusal) → says_range a ≡ says_range b → a ≡ b
range_one = says_one _ (λ x. x) (λ x. refl)

pub list_one : (a b : Result GetXIDListReply Refusal) → says_list a ≡ says_list b → a ≡ b
list_one = says_one _ (λ x. x) (λ x. refl)

-- So any two outcomes of a call that reads a list are equal, its answer and the room that it leaves.
pub lists_one : {o : ℕ} {p before u v : List ℕ} (a b : Result GetXIDListReply Refusal) → Lists o p before (says_list a) u → Lists o p before (says_list b) v → (a ≡ b) × (u ≡ v)
lists_one {o} {p = p} {before = before} a b x y =
    let e : says_list a ≡ says_list b = x.answers ∙ sym y.answers in
    (list_one a b e, x.left_is ∙ ap (λ (k : Answer GetXIDListReply). leaves k (ids_of o (list_of o p).count p) before) e ∙ sym y.left_is)
