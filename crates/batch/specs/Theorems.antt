-- The calls that make many steps in the model's terms, and the states that they leave. Assumes nothing.
use Rattle.std.specs.Prelude.{◌≡◌, refl, Bool, true, false, List, [], ◌∷◌, ℕ, ltb}
use Rattle.std.proofs.Common.{sym, ◌∙◌, arith}
use Rattle.std.proofs.Math.Path.{ap, subst}
use Rattle.octets.specs.Logic.{choose}
use Rattle.refusal.specs.Answer.{gives, gives_same}
use Rattle.model.specs.Reading.{Rooms, reads}
use Rattle.model.specs.Promise.{Done, model_of}
use Rattle.model.specs.Sound.{Sound}
use Rattle.model.specs.Client.{Held, Client}
use Rattle.model.specs.Model as Model
use Rattle.model.specs.Model.{Taken, send_request}
use Rattle.model.specs.Batch.{Turn, goes, stops, Many, many, Stop, ended, refused, meaningless, model_turn, Site, site, read_site, exact_turn, read_turn, read_many, Each}
use Rattle.model.specs.BatchLaws.{goes_one, turn_reads, turn_gives, many_reads, many_keeps, row_model, row_sound}
use Rattle.model.specs.PollForEvents.{turns, Lent, lent, room_for, handing, event_turn, Handings, or_refused, handed, poll_for_events}
use Rattle.model.specs.SendRequests.{kinds, kind_of, send_turn, Sendings, sendings, send_requests}
use Rattle.model.specs.declared.Connection.{Connection}
use Rattle.sending.specs.Send.{send_exact}
use Rattle.sending.specs.Theorems.{send_model, send_sound}
use Rattle.polling.specs.Exact.{event_exact}
use Rattle.polling.specs.Theorems.{event_model, event_leaves}
use Rattle.batch.specs.Send.{send_step, sends_exact}
use Rattle.batch.specs.Events.{event_step, handed_exact, events_exact}

-- nothing is asked of an input
abbrev pub Any : {X : Type 0} → X → Type 0
Any x = Unit {0}

pub all_any : {X : Type 0} (xs : List X) → Each Any xs
all_any [] = tt
all_any (x ∷ xs) = (tt, all_any xs)

-- ---- sending

send_turn_lem : (c : Connection) (r : Rooms) → Sound c r → (byte : ℕ) → Any byte → read_turn read_site (send_step (site c r) byte) ≡ send_turn (reads c r) byte
unfolding send_step send_turn choose read_turn
send_turn_lem c r S byte u = go (ltb byte kinds)
  where
    go : (b : Bool) → read_turn read_site (choose b (exact_turn (send_exact c r (kind_of byte))) (stops meaningless)) ≡ choose b (model_turn (send_request (reads c r) (kind_of byte))) (stops meaningless)
    go true = turn_reads (send_exact c r (kind_of byte)) ∙ ap model_turn (send_model c r S (kind_of byte))
    go false = refl

-- what a turn gave was given by a single send
pub send_gave : (c : Connection) (r : Rooms) (byte n : ℕ) (t : Site) → goes n t ≡ send_step (site c r) byte → gives (record { value = n; state = t.state; left = t.left }) ≡ send_exact c r (kind_of byte)
unfolding send_step choose
send_gave c r byte n t e = go (ltb byte kinds) e
  where
    go : (b : Bool) → goes n t ≡ choose b (exact_turn (send_exact c r (kind_of byte))) (stops meaningless) → gives (record { value = n; state = t.state; left = t.left }) ≡ send_exact c r (kind_of byte)
    go true q = turn_gives (send_exact c r (kind_of byte)) n t q
    go false q = absurd (let z : ◌≡◌ {A = ℕ} 0 1 = cc in omega arith)

send_keeps : (c : Connection) (r : Rooms) → Sound c r → (byte : ℕ) → Any byte → (n : ℕ) (t : Site) → goes n t ≡ send_step (site c r) byte → Sound t.state t.left
send_keeps c r S byte u n t e = send_sound c r S (kind_of byte) _ (send_gave c r byte n t e)

module _ (c : Connection) (r : Rooms) (S : Sound c r) (bytes : List ℕ) where
  -- MANY SENDS are the model's,
  pub sends_model : model_of (sends_exact c r bytes) ≡ send_requests (reads c r) bytes
  unfolding sends_exact send_requests
  sends_model = row_model send_step send_turn Any send_turn_lem send_keeps sendings ended c r S bytes (all_any bytes)

  -- and leave a sound state.
  pub sends_sound : (d : Done Sendings) → gives d ≡ sends_exact c r bytes → Sound d.state d.left
  unfolding sends_exact
  sends_sound d e = subst (λ (y : Done Sendings). Sound y.state y.left) (gives_same (sym e)) (row_sound send_step send_turn Any send_turn_lem send_keeps sendings ended c r S bytes (all_any bytes))

-- ---- events

read_lent : Lent Site → Lent Client
read_lent l = lent (read_site l.at) l.room

handing_reads : {S T : Type 0} (f : S → T) (room : ℕ) (t : Turn Taken Stop S) → read_turn (λ (l : Lent S). lent (f l.at) l.room) (handing room t) ≡ handing room (read_turn f t)
unfolding handing read_turn
handing_reads f room (goes Model.none s) = refl
handing_reads f room (goes (Model.packet h) s) = refl
handing_reads f room (stops w) = refl

-- what a turn gave was handed out by a single poll
pub handing_gave : {S : Type 0} (room : ℕ) (t : Turn Taken Stop S) (h : Held) (l : Lent S) → goes h l ≡ handing room t → goes (Model.packet h) l.at ≡ t
unfolding handing
handing_gave room (goes Model.none s) h l e = absurd (let z : ◌≡◌ {A = ℕ} 0 1 = cc in omega arith)
handing_gave room (goes (Model.packet h') s) h l e =
    let z = goes_one e in
    (λ k. goes (Model.packet (z.0 k)) (z.1 k).at)
handing_gave room (stops w) h l e = absurd (let z : ◌≡◌ {A = ℕ} 0 1 = cc in omega arith)

pub event_gave : (l : Lent Site) (marks : Bool) (h : Held) (l' : Lent Site) → goes h l' ≡ event_step l marks
    → gives (record { value = Model.packet h; state = l'.at.state; left = l'.at.left }) ≡ event_exact l.at.state l.at.left (room_for marks l.room)
unfolding event_step
event_gave l marks h l' e = turn_gives _ (Model.packet h) l'.at (handing_gave l.room _ h l' e)

abbrev LentSound : Lent Site → Type 0
LentSound l = Sound l.at.state l.at.left

event_turn_lem : (l : Lent Site) → LentSound l → (marks : Bool) → Any marks → read_turn read_lent (event_step l marks) ≡ event_turn (read_lent l) marks
unfolding event_step event_turn read_lent
event_turn_lem l S marks u =
    handing_reads read_site l.room (exact_turn (event_exact l.at.state l.at.left (room_for marks l.room)))
    ∙ ap (handing l.room) (turn_reads (event_exact l.at.state l.at.left (room_for marks l.room)) ∙ ap model_turn (event_model l.at.state l.at.left S (room_for marks l.room)))

event_keeps : (l : Lent Site) → LentSound l → (marks : Bool) → Any marks → (h : Held) (l' : Lent Site) → goes h l' ≡ event_step l marks → LentSound l'
event_keeps l S marks u h l' e = event_leaves l.at.state l.at.left S (room_for marks l.room) _ (event_gave l marks h l' e)

handed_reads : (x : Many Held Stop (Lent Site)) → model_of (handed_exact x) ≡ handed (read_many read_lent x)
unfolding handed_exact handed read_lent or_refused model_of
handed_reads x = go x.values x.stopped (record { value = record { events = x.values; stopped = x.stopped }; state = x.end.at.state; left = x.end.at.left })
  where
    go : (vs : List Held) (w : Stop) (d : Done Handings) → model_of (or_refused vs w (gives d)) ≡ or_refused vs w (gives (d.value, reads d.state d.left))
    go [] ended d = refl
    go [] (refused n) d = refl
    go [] meaningless d = refl
    go (h ∷ vs) w d = refl

pub handed_done : (x : Many Held Stop (Lent Site)) (d : Done Handings) → gives d ≡ handed_exact x → (d.state ≡ x.end.at.state) × (d.left ≡ x.end.at.left)
unfolding handed_exact or_refused
handed_done x d e =
    let z = go x.values x.stopped _ e in
    (ap (λ (y : Done Handings). y.state) z, ap (λ (y : Done Handings). y.left) z)
  where
    go : (vs : List Held) (w : Stop) (y : Done Handings) → gives d ≡ or_refused vs w (gives y) → d ≡ y
    go [] ended y q = gives_same q
    go [] (refused n) y q = absurd (let z : ◌≡◌ {A = ℕ} 0 1 = cc in omega arith)
    go [] meaningless y q = gives_same q
    go (h ∷ vs) w y q = gives_same q

module _ (c : Connection) (r : Rooms) (S : Sound c r) (room marks : ℕ) where
  -- MANY EVENTS handed out are the model's,
  pub events_model : model_of (events_exact c r room marks) ≡ poll_for_events (reads c r) room marks
  unfolding events_exact poll_for_events read_lent
  events_model =
      handed_reads (many event_step ended (lent (site c r) room) (turns marks))
      ∙ ap handed (many_reads event_step event_turn read_lent LentSound Any event_turn_lem event_keeps ended (lent (site c r) room) (turns marks) S (all_any (turns marks)))

  -- and leave a sound state.
  pub events_sound : (d : Done Handings) → gives d ≡ events_exact c r room marks → Sound d.state d.left
  unfolding events_exact
  events_sound d e =
      let z = handed_done (many event_step ended (lent (site c r) room) (turns marks)) d e in
      let k = many_keeps event_step event_turn read_lent LentSound Any event_turn_lem event_keeps ended (lent (site c r) room) (turns marks) S (all_any (turns marks)) in
      subst (λ (t : Rooms). Sound d.state t) (sym z.1) (subst (λ (t : Connection). Sound t (many event_step ended (lent (site c r) room) (turns marks)).end.at.left) (sym z.0) k)
