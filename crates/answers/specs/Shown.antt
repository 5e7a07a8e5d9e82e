-- What is shown of the values that a call gives: the numbers behind the pointers of its export, in their order. Assumes nothing.
use Rattle.std.specs.Prelude.{◌≡◌, refl, Bool, true, false, cond, not, List, [], ◌∷◌, ℕ, ◌≤◌, ◌<◌, eqb, ltb, length, get_or, set, Result, Ok, Err}
use Rattle.std.proofs.Common.{sym, ap, ◌∙◌, arith, eq-eqb, eqb-true, ne_eqb, lt-ltb, le-ltb}
use Rattle.octets.specs.Logic.{choose, either}
use Rattle.refusal.specs.declared.Refusal.{Refusal}
use Rattle.refusal.specs.declared.Refusal.TheVariants.{BadRoom}
use Rattle.refusal.specs.Answer.{Answer, gives, refuses, refuse, pass}
use Rattle.x11_utils.specs.declared.X11Error.{X11Error}
use Rattle.xc_misc.specs.declared.reply.GetVersionReply.{GetVersionReply}
use Rattle.xc_misc.specs.declared.reply.GetXIDRangeReply.{GetXIDRangeReply}
use Rattle.xc_misc.specs.declared.reply.GetXIDListReply.{GetXIDListReply}
use Rattle.packet_reader.specs.Reader as Reader
use Rattle.packet_reader.specs.declared.PacketReader.{PacketReader}
use Rattle.packet.specs.Packet.{class_number}
use Rattle.packet.specs.Class.{says_class, classed, class_back, class_at, number_back}
use Rattle.packet_reader.specs.Frame.{Frame}
use Rattle.connect.specs.Handshake as Handshake
use Rattle.connect.specs.Setup as Setup
use Rattle.connect.specs.Setup.{Reading, read_failed, read_success, read_reply, vendor_place, reason_place}
use Rattle.connect.specs.declared.handshake.Connect.{Connect}
use Rattle.connect.specs.declared.reply.Setup.{Setup}
use Rattle.connect.specs.declared.reply.SetupFailed.{SetupFailed}
use Rattle.connect.specs.declared.reply.SetupAuthenticate.{SetupAuthenticate}
use Rattle.model.specs.Model as Model
use Rattle.requests.specs.declared.Mode.{Mode}
use Rattle.held.specs.Head as Head
use Rattle.model.specs.Model.{Filing}
use Rattle.model.specs.Says.{Shown, none, packet, ShownPoll, again, no_reply, reply, IfShown, IfPolled, Under, Bare}
use Rattle.model.specs.declared.Handed.{Handed}
use Rattle.model.specs.Batch.{Stop, ended, refused, meaningless}
use Rattle.model.specs.SendRequests.{ShownSendings}
use Rattle.model.specs.PollForEvents.{ShownHandings}
use Rattle.model.specs.Feed.{ShownFed}
use Rattle.model.specs.Feed as Feed
use Rattle.model.specs.declared.Connection.{Connection}
use Rattle.model.specs.declared.Place.{Place}
use Rattle.model.specs.declared.DiscardMode.{DiscardMode}
use Rattle.rows.specs.State.{four, connection_row, kept_row, sent_row}

-- no numbers; a number itself
abbrev pub nothing : {A : Type 0} → A → List ℕ
nothing x = []

abbrev pub number : ℕ → List ℕ
number n = n ∷ []

-- 9 for a row that has not k numbers
unfoldable pub roomed : {A : Type 0} → ℕ → List ℕ → Answer A → Answer A
roomed k s a = refuse (not (eqb (length s) k)) 9 a

-- ---- the leaves

abbrev pub error_fields : X11Error → List ℕ
error_fields e = e.code ∷ e.sequence.0 ∷ e.value ∷ e.minor ∷ e.major ∷ []

abbrev pub version_fields : GetVersionReply → List ℕ
version_fields p = p.sequence.0 ∷ p.length ∷ p.major ∷ p.minor ∷ []

abbrev pub range_fields : GetXIDRangeReply → List ℕ
range_fields p = p.sequence.0 ∷ p.length ∷ p.start ∷ p.count ∷ []

abbrev pub list_fields : GetXIDListReply → List ℕ
list_fields p = p.sequence.0 ∷ p.length ∷ p.count ∷ []

-- ---- reader and handshake

-- what a packet's first bytes tell
abbrev pub framed : Frame → List ℕ
framed f = f.length ∷ class_number f.class ∷ []

-- the length and the class of a whole packet, or 0; and the reader to go on with
abbrev pub packet_framed : Reader.Progress → List ℕ
packet_framed (Reader.waits r) = 0 ∷ 0 ∷ []
packet_framed (Reader.whole n k r) = n ∷ class_number k ∷ []

abbrev pub packet_reader : Reader.Progress → PacketReader
packet_reader (Reader.waits r) = r
packet_reader (Reader.whole n k r) = r

-- 1 for a complete reply; and the handshake to go on with
abbrev pub completed : Handshake.Progress → List ℕ
completed (Handshake.waits c) = 0 ∷ []
completed (Handshake.complete c) = 1 ∷ []

abbrev pub progressed : Handshake.Progress → Connect
progressed (Handshake.waits c) = c
progressed (Handshake.complete c) = c

-- a setup's fields have seventeen places; 8, behind all else, where there are fewer
abbrev pub setup_places : ℕ
setup_places = 17

unfoldable pub setup_roomed : ℕ → Answer Reading → Answer Reading
setup_roomed n a = pass a (λ x. refuse (ltb n setup_places) 8 (gives x))

-- the first byte of the reply
abbrev pub status_of : Reading → List ℕ
status_of (Setup.failed x) = 0 ∷ []
status_of (Setup.success x) = 1 ∷ []
status_of (Setup.authenticate x) = 2 ∷ []

-- the fields in their places: of a success all of them,
abbrev pub wide_row : List ℕ → Setup → List ℕ
wide_row s x = four (four s 0 x.major x.minor x.length x.release) 4 x.base x.mask x.motion x.vendor

abbrev pub counts_row : List ℕ → Setup → List ℕ
counts_row s x = four s 8 x.request x.roots x.formats x.image

abbrev pub bits_row : List ℕ → Setup → List ℕ
bits_row s x = set (four s 12 x.bitmap x.unit x.pad x.first) 16 x.last

unfoldable pub success_row : List ℕ → Setup → List ℕ
success_row s x = bits_row (counts_row (wide_row s x) x) x

-- of a failure the version, the length and that of the reason,
abbrev pub failed_row : List ℕ → SetupFailed → List ℕ
failed_row s x = four s 0 x.major x.minor x.length x.reason

-- of further authentication the length.
abbrev pub setup_fields : List ℕ → Reading → List ℕ
setup_fields s (Setup.failed x) = failed_row s x
setup_fields s (Setup.success x) = success_row s x
setup_fields s (Setup.authenticate x) = set s 2 x.length

-- where a text stands, and its size
abbrev pub vendor_text : Reading → List ℕ
vendor_text x = (vendor_place (gives x)).start ∷ (vendor_place (gives x)).size ∷ []

abbrev pub reason_text : Reading → List ℕ
reason_text x = (reason_place (gives x)).start ∷ (reason_place (gives x)).size ∷ []

-- ---- the connection

-- the state that is handed back, in the row that was lent
abbrev pub state_row : {A : Type 0} → List ℕ → A × Connection → List ℕ
state_row s x = connection_row s x.1

-- the same where the row is the one that the state was read from
abbrev pub kept_in : {A : Type 0} → List ℕ → A × Connection → List ℕ
kept_in s x = kept_row s x.1

-- the same where a send changed it
abbrev pub sent_in : {A : Type 0} → List ℕ → A × Connection → List ℕ
sent_in s x = sent_row s x.1

-- the value itself
abbrev pub first : ℕ × Connection → List ℕ
first x = x.0 ∷ []

-- 0 for the replies, 1 for the events, 2 for dropped
abbrev pub place_number : Place → ℕ
place_number Place.Replies = 0
place_number Place.Events = 1
place_number Place.Dropped = 2

abbrev pub filing : Filing × Connection → List ℕ
filing x = place_number x.0.place ∷ x.0.number ∷ class_number x.0.class ∷ []

-- the number of the class of what is handed out
abbrev pub class_of_handed : Handed → ℕ
class_of_handed z = class_number (says_class z.class)

-- whether a packet was found, its bytes, its descriptors and its class
abbrev pub polled_of : Shown → List ℕ
polled_of none = 0 ∷ 0 ∷ 0 ∷ 0 ∷ []
polled_of (packet z) = 1 ∷ z.length ∷ z.descriptors ∷ class_of_handed z ∷ []

abbrev pub polled : Shown × Connection → List ℕ
polled x = polled_of x.0

-- 0 for TryAgain, 1 for NoReply, 2 for a reply, its bytes and its class
abbrev pub poll_of : ShownPoll → List ℕ
poll_of again = 0 ∷ 0 ∷ 0 ∷ []
poll_of no_reply = 1 ∷ 0 ∷ 0 ∷ []
poll_of (reply z) = 2 ∷ z.length ∷ class_of_handed z ∷ []

abbrev pub poll : ShownPoll × Connection → List ℕ
poll x = poll_of x.0

-- whether an event was found, its number, its bytes and its class
abbrev pub event_of : Shown → List ℕ
event_of none = 0 ∷ 0 ∷ 0 ∷ 0 ∷ []
event_of (packet z) = 1 ∷ z.number.0 ∷ z.length ∷ class_of_handed z ∷ []

abbrev pub event : Shown × Connection → List ℕ
event x = event_of x.0

-- what stopped a call that makes many steps: 0 for the end, a refusal by its number, 255 for a byte that is no kind
abbrev pub stop_number : Stop → ℕ
stop_number ended = 0
stop_number (refused n) = n
stop_number meaningless = 255

-- how many requests were sent, the last number written, and what stopped it
abbrev pub sendings : ShownSendings × Connection → List ℕ
sendings x = x.0.count ∷ x.0.last ∷ stop_number x.0.stopped ∷ []

-- how many events were handed out, the bytes of their packets, and what stopped it
abbrev pub handings : ShownHandings × Connection → List ℕ
handings x = x.0.count ∷ x.0.bytes ∷ stop_number x.0.stopped ∷ []

-- what stopped a row of packets: 0 where no byte is left, a refusal by its number, 254 where part of a packet is left
abbrev pub halt_number : Feed.Stopped → ℕ
halt_number Feed.ended = 0
halt_number (Feed.refused n) = n
halt_number Feed.partial = 254

-- how many bytes were taken, how many packets, and what stopped it
abbrev pub fed : ShownFed × Connection → List ℕ
fed x = x.0.bytes ∷ x.0.packets ∷ halt_number x.0.stopped ∷ []

-- 1 for true
abbrev pub flag : Bool → List ℕ
flag b = cond b 1 0 ∷ []

-- the largest number that means a kind; which numbers mean a mode, and which mode
abbrev pub most_kind : ℕ
most_kind = 2

unfoldable pub is_mode : ℕ → Bool
is_mode n = either (eqb n 1) (eqb n 2)

unfoldable pub mode_of : ℕ → DiscardMode
mode_of n = choose (eqb n 1) DiscardMode.DiscardReply DiscardMode.DiscardReplyAndError

-- the mode that a number means, or the refusal by 9 of one that means none
unfoldable pub mode_in : ℕ → Result DiscardMode Refusal
mode_in n = choose (is_mode n) (Ok (mode_of n)) (Err BadRoom)

-- ---- what the rooms hold

-- what becomes of the answers of a request: 0 where nothing is discarded, 1 for DiscardReply, 2 for DiscardReplyAndError
abbrev pub mode_number : Mode → ℕ
mode_number Mode.Keep = 0
mode_number Mode.DiscardReply = 1
mode_number Mode.DiscardReplyAndError = 2

-- what a held record is: 0 for a reply, 1 for an event
unfoldable pub kind_number : ℕ → ℕ
kind_number kind = choose (eqb kind Head.event) 1 0

-- ---- laws

-- a row of another length, and one of the right length
pub roomed_off : {A : Type 0} (k : ℕ) (s : List ℕ) (a : Answer A) → (length s ≡ k → ⊥) → refuses 9 ≡ roomed k s a
unfolding roomed refuse
roomed_off k s a h = simp (ne_eqb _ _ h)

pub roomed_on : {A : Type 0} (k : ℕ) (s : List ℕ) (x a : Answer A) → length s ≡ k → x ≡ a → x ≡ roomed k s a
unfolding roomed refuse
roomed_on k s x a h e = simp (eq-eqb _ _ h) e

-- fields with too few places, and with enough
pub setup_short : (n : ℕ) (a : Answer Reading) (x : Reading) → gives x ≡ a → n < setup_places → refuses 8 ≡ setup_roomed n a
unfolding setup_roomed pass refuse
setup_short n a x e h = let q : refuses 8 ≡ setup_roomed n (gives x) = simp (lt-ltb _ _ h) in q ∙ ap (setup_roomed n) e

pub setup_roomy : (n : ℕ) (a : Answer Reading) (x : Reading) → gives x ≡ a → setup_places ≤ n → gives x ≡ setup_roomed n a
unfolding setup_roomed pass refuse
setup_roomy n a x e h = let q : gives x ≡ setup_roomed n (gives x) = simp (le-ltb _ _ h) in q ∙ ap (setup_roomed n) e

pub setup_refused : (n : ℕ) (a : Answer Reading) (k : ℕ) → refuses k ≡ a → refuses k ≡ setup_roomed n a
unfolding setup_roomed pass
setup_refused n a k e = ap (setup_roomed n) e

-- The status is the first byte of the reply.
picked : (a b c f s : Bool) (n : ℕ) (x : SetupFailed) (y : Setup) (z : SetupAuthenticate) (r : Reading) → eqb n 0 ≡ a → eqb n 1 ≡ b → eqb n 2 ≡ c
    → gives r ≡ choose a (refuse f 14 (gives (Setup.failed x))) (choose b (refuse s 14 (gives (Setup.success y))) (choose c (gives (Setup.authenticate z)) (refuses 14))) → status_of r ≡ n ∷ []
unfolding choose refuse
picked true b c true s n x y z r p q u e = absurd (let w : ◌≡◌ {A = ℕ} 0 1 = cc in omega arith)
picked true b c false s n x y z r p q u e = let w : r ≡ Setup.failed x = cc in ap status_of w ∙ ap number (sym (eqb-true n 0 p))
picked false true c f true n x y z r p q u e = absurd (let w : ◌≡◌ {A = ℕ} 0 1 = cc in omega arith)
picked false true c f false n x y z r p q u e = let w : r ≡ Setup.success y = cc in ap status_of w ∙ ap number (sym (eqb-true n 1 q))
picked false false true f s n x y z r p q u e = let w : r ≡ Setup.authenticate z = cc in ap status_of w ∙ ap number (sym (eqb-true n 2 u))
picked false false false f s n x y z r p q u e = absurd (let w : ◌≡◌ {A = ℕ} 0 1 = cc in omega arith)

pub status_first : (o : ℕ) (p : List ℕ) (r : Reading) → gives r ≡ read_reply o p → status_of r ≡ get_or p 0 0 ∷ []
unfolding read_reply read_failed read_success
status_first o p r e = picked _ _ _ _ _ (get_or p 0 0) _ _ _ r refl refl refl e

-- A mode that was found is the one that the number means, and a refusal is by 9 of a number that means none.
pub mode_meant : {m : DiscardMode} (n : ℕ) → Ok m ≡ mode_in n → (is_mode n ≡ true) × (m ≡ mode_of n)
unfolding mode_in choose
mode_meant {m} n e = go (is_mode n) refl e
  where
    go : (b : Bool) → is_mode n ≡ b → Ok m ≡ choose b (Ok (mode_of n)) (Err BadRoom) → (is_mode n ≡ true) × (m ≡ mode_of n)
    go true h k = (h, cc)
    go false h k = absurd (let z : ◌≡◌ {A = ℕ} 0 1 = cc in omega arith)

pub mode_meaningless : {e : Refusal} (n : ℕ) → Err e ≡ mode_in n → (is_mode n ≡ false) × (e ≡ BadRoom)
unfolding mode_in choose
mode_meaningless {e} n p = go (is_mode n) refl p
  where
    go : (b : Bool) → is_mode n ≡ b → Err e ≡ choose b (Ok (mode_of n)) (Err BadRoom) → (is_mode n ≡ false) × (e ≡ BadRoom)
    go true h k = absurd (let z : ◌≡◌ {A = ℕ} 0 1 = cc in omega arith)
    go false h k = (h, cc)

-- The number of a mode is the one that is kept of a request under that mode.
pub mode_kept : (n : ℕ) → is_mode n ≡ true → mode_number (Model.mode_of (mode_of n)) ≡ n
unfolding is_mode mode_of choose either
mode_kept n h = go (eqb n 1) refl h
  where
    go : (b : Bool) → eqb n 1 ≡ b → either b (eqb n 2) ≡ true → mode_number (Model.mode_of (choose b DiscardMode.DiscardReply DiscardMode.DiscardReplyAndError)) ≡ n
    go true e k = sym (eqb-true n 1 e)
    go false e k = sym (eqb-true n 2 k)

-- ---- What is shown tells what was given: two that show the same are the same. Of a packet that was asked for by its number the number is not shown, nor is a count where no descriptors are handed out.

place_of : ℕ → Place
place_of n = choose (eqb n 0) Place.Replies (choose (eqb n 1) Place.Events Place.Dropped)

place_back : (x : Place) → place_of (place_number x) ≡ x
unfolding place_of choose
place_back Place.Replies = refl
place_back Place.Events = refl
place_back Place.Dropped = refl

pub place_told : (x y : Place) → place_number x ≡ place_number y → x ≡ y
place_told x y e = sym (place_back x) ∙ ap place_of e ∙ place_back y

handed : ℕ → ℕ → ℕ → ℕ → Handed
handed n bytes fds k = record { number = record { 0 = n }; length = bytes; descriptors = fds; class = classed (class_at k) }

class_shown : (z : Handed) → classed (class_at (class_of_handed z)) ≡ z.class
class_shown z = ap classed (number_back (says_class z.class)) ∙ class_back z.class

back_polled : ℕ → List ℕ → Shown
back_polled n l = choose (eqb (get_or l 0 0) 0) none (packet (handed n (get_or l 1 0) (get_or l 2 0) (get_or l 3 0)))

polled_back : (n : ℕ) (x : Shown) → IfShown (Under n) x → back_polled n (polled_of x) ≡ x
unfolding back_polled handed choose
polled_back n none h = refl
polled_back n (packet z) h = λ k. packet (record { number = record { 0 = sym h k }; length = z.length; descriptors = z.descriptors; class = class_shown z k })

pub polled_told : (n : ℕ) (x y : Shown) → IfShown (Under n) x → IfShown (Under n) y → polled_of x ≡ polled_of y → x ≡ y
polled_told n x y h k e = sym (polled_back n x h) ∙ ap (back_polled n) e ∙ polled_back n y k

back_poll : ℕ → List ℕ → ShownPoll
back_poll n l = choose (eqb (get_or l 0 0) 0) again (choose (eqb (get_or l 0 0) 1) no_reply (reply (handed n (get_or l 1 0) 0 (get_or l 2 0))))

poll_back : (n : ℕ) (x : ShownPoll) → IfPolled (λ z. Under n z × Bare z) x → back_poll n (poll_of x) ≡ x
unfolding back_poll handed choose
poll_back n again h = refl
poll_back n no_reply h = refl
poll_back n (reply z) h = λ k. reply (record { number = record { 0 = sym h.0 k }; length = z.length; descriptors = sym h.1 k; class = class_shown z k })

pub poll_told : (n : ℕ) (x y : ShownPoll) → IfPolled (λ z. Under n z × Bare z) x → IfPolled (λ z. Under n z × Bare z) y → poll_of x ≡ poll_of y → x ≡ y
poll_told n x y h k e = sym (poll_back n x h) ∙ ap (back_poll n) e ∙ poll_back n y k

back_event : List ℕ → Shown
back_event l = choose (eqb (get_or l 0 0) 0) none (packet (handed (get_or l 1 0) (get_or l 2 0) 0 (get_or l 3 0)))

event_back : (x : Shown) → IfShown Bare x → back_event (event_of x) ≡ x
unfolding back_event handed choose
event_back none h = refl
event_back (packet z) h = λ k. packet (record { number = z.number; length = z.length; descriptors = sym h k; class = class_shown z k })

pub event_told : (x y : Shown) → IfShown Bare x → IfShown Bare y → event_of x ≡ event_of y → x ≡ y
event_told x y h k e = sym (event_back x h) ∙ ap back_event e ∙ event_back y k

-- What stopped a call too: a refusal's number is 1 to 16.
abbrev pub Listed : ℕ → Type 0
Listed n = (1 ≤ n) × (n ≤ 16)

abbrev pub ListedStop : Stop → Type 0
ListedStop ended = Unit {0}
ListedStop (refused n) = Listed n
ListedStop meaningless = Unit {0}

back_stop : ℕ → Stop
back_stop n = choose (eqb n 0) ended (choose (eqb n 255) meaningless (refused n))

stop_back : (x : Stop) → ListedStop x → back_stop (stop_number x) ≡ x
unfolding back_stop choose
stop_back ended h = refl
stop_back (refused n) h = simp (ne_eqb n 0 (λ e. omega (arith, e, h.0)), ne_eqb n 255 (λ e. omega (arith, e, h.1)))
stop_back meaningless h = refl

pub stop_told : (x y : Stop) → ListedStop x → ListedStop y → stop_number x ≡ stop_number y → x ≡ y
stop_told x y h k e = sym (stop_back x h) ∙ ap back_stop e ∙ stop_back y k

abbrev pub ListedHalt : Feed.Stopped → Type 0
ListedHalt Feed.ended = Unit {0}
ListedHalt (Feed.refused n) = Listed n
ListedHalt Feed.partial = Unit {0}

back_halt : ℕ → Feed.Stopped
back_halt n = choose (eqb n 0) Feed.ended (choose (eqb n 254) Feed.partial (Feed.refused n))

halt_back : (x : Feed.Stopped) → ListedHalt x → back_halt (halt_number x) ≡ x
unfolding back_halt choose
halt_back Feed.ended h = refl
halt_back (Feed.refused n) h = simp (ne_eqb n 0 (λ e. omega (arith, e, h.0)), ne_eqb n 254 (λ e. omega (arith, e, h.1)))
halt_back Feed.partial h = refl

pub halt_told : (x y : Feed.Stopped) → ListedHalt x → ListedHalt y → halt_number x ≡ halt_number y → x ≡ y
halt_told x y h k e = sym (halt_back x h) ∙ ap back_halt e ∙ halt_back y k
