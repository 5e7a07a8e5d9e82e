-- What `xm_save` wrote and `xm_restore` read goes on as a session. Assumes nothing.
use Rattle.std.specs.Prelude.{Bool, true, false, not, List, [], ◌∷◌, ◌≡◌, refl, ℕ, length, take}
use Rattle.std.proofs.Math.Option.{Option, none, some}
use Rattle.std.proofs.Math.Path.{sym}
use Rattle.std.proofs.Common.{ap, ◌∙◌, subst, arith}
use borrow.Author.Tests.{eqb-true}
use Rattle.octets.specs.Logic.{both, both_left}
use Rattle.refusal.specs.Answer.{Answer, gives, refuses, refuse, pass, gives_past, gives_rest}
use Rattle.model.specs.Reading.{Rooms, rooms}
use Rattle.model.specs.declared.Connection.{Connection}
use Rattle.savepoint.specs.Saved.{Saved, Sections, taken, decode}
use Rattle.savepoint.specs.Calls.{Laid, length_of, bytes_of, count_of, Saves, fitting, placed, restored, values_of, rooms_after, buffer_after, Restores}
use Rattle.honest.specs.Run.{Entry}
use Rattle.session.specs.Session.{Session}
use Rattle.session.proofs.Theorems.{session_sound}
use Rattle.rows.specs.State.{connection_slots, connection_of, reader_of, ids_of}
use Rattle.rows.specs.Theorems.{connection_back}
use Rattle.answers.specs.Exported.{returned, shown_of, shown_at}
use Rattle.answers.specs.Shown.{number}
use Rattle.xiengmado.specs.ExportsSavepoint.{laid_in, rows_fit, restored_in, restored_fit, GivesLaid, XmSave, XmRestore}
use Rattle.exports.specs.Refusals.{Within, up_to, given, named, within_refuse, within_pass}
use Rattle.exports.specs.Asking.{legal_small, row_long}

-- ---- Neither is refused by 0.

within_count : (these : ℕ → Bool) (a : Answer (List ℕ)) → Within these a → Within these (count_of a)
unfolding count_of
within_count these (gives b) w = given
within_count these (refuses n) (named p q) = named p q

saved_within : (x : Laid) (room : ℕ) → Within (up_to 19) (count_of (bytes_of x room))
unfolding bytes_of length_of
saved_within x room =
    within_count (up_to 19) (bytes_of x room) (within_pass (within_refuse _ 9 refl refl (within_refuse _ 18 refl refl given)) (λ n. within_refuse _ 8 refl refl given))

taken_within : (o : Option (Sections × List ℕ)) → Within (up_to 19) (taken o)
unfolding taken
taken_within none = named {n = 19} (omega arith) refl
taken_within (some p) = within_refuse _ 19 refl refl given

restored_within : (fit : Bool) (bytes : List ℕ) (r : Rooms) (b : List ℕ) → Within (up_to 19) (restored_in fit bytes r b)
unfolding restored_in decode
restored_within fit bytes r b = within_pass (taken_within _) (λ s. within_refuse _ 9 refl refl given)

never : {A : Type 0} {n : ℕ} → Within (up_to 19) {A = A} (refuses n) → 0 ≡ n → ⊥
never (named p q) e = omega arith

-- ---- What is restored

-- the rows fit, and the slots are those lent
back : (a : Answer Saved) (fit : Bool) (r : Rooms) (b : List ℕ) (x : Laid) → gives x ≡ pass a (λ s. refuse (not (both fit (fitting s r b))) 9 (gives (placed s r b))) → (fit ≡ true) × (x.rooms.slots ≡ r.slots)
unfolding pass
back (gives s) fit r b x e =
    let p = gives_past (not (both fit (fitting s r b))) 9 (gives (placed s r b)) e in
    let q : gives x ≡ gives (placed s r b) = gives_rest (not (both fit (fitting s r b))) 9 (gives (placed s r b)) e in
    let y : x ≡ placed s r b = cc in
    (both_left _ _ (kept (both fit (fitting s r b)) p), ap (λ (z : Laid). z.rooms.slots) y)
  where
    kept : (t : Bool) → not t ≡ false → t ≡ true
    kept true h = refl
    kept false h = absurd (let z : ◌≡◌ {A = ℕ} 0 1 = cc in omega arith)
back (refuses n) fit r b x e = absurd (let z : ◌≡◌ {A = ℕ} 0 1 = cc in omega arith)

-- ---- A session, its savepoint, and what was read from it

module _ (state requests store slots reader buf ids out out' : List ℕ) (size size' : ℕ) (row requests₁ store₁ slots₁ reader₁ buf₁ ids₁ row' requests' store' reader' buf' ids' : List ℕ) (l : List Entry)
    (k : Session (connection_of state) (rooms requests store slots) l) where
  abbrev answer : Answer Laid
  answer = restored_in (rows_fit row reader₁ ids₁) (take size' out') (rooms requests₁ store₁ slots₁) buf₁

  -- a client that was given
  module _ (x : Laid) (e : gives x ≡ answer) (g : GivesLaid (gives x) row requests₁ store₁ reader₁ buf₁ ids₁ row' requests' store' reader' buf' ids' 0) where
    fitted : (rows_fit row reader₁ ids₁ ≡ true) × (x.rooms.slots ≡ slots₁)
    unfolding restored_in
    fitted = back (decode (take size' out')) (rows_fit row reader₁ ids₁) (rooms requests₁ store₁ slots₁) buf₁ x e

    long : length row ≡ connection_slots
    unfolding rows_fit
    long = eqb-true _ _ (both_left _ _ fitted.0)

    so : restored (take size' out') (rooms requests₁ store₁ slots₁) buf₁ ≡ gives x
    so = restored_fit (take size' out') (rooms requests₁ store₁ slots₁) buf₁ ∙ ap (λ (t : Bool). restored_in t (take size' out') (rooms requests₁ store₁ slots₁) buf₁) (sym fitted.0) ∙ sym e

    -- as the call below gives it
    below : Restores (take size' out') (rooms requests₁ store₁ slots₁) buf₁ (gives (x.connection, (x.reader, x.ids))) (rooms requests' store' slots₁) buf'
    unfolding values_of rooms_after buffer_after
    below = record {
      answers = sym (ap values_of so);
      leaves = (λ i. rooms (g.outstanding i) (g.held i) (sym fitted.1 i)) ∙ sym (ap (λ (a : Answer Laid). rooms_after a (rooms requests₁ store₁ slots₁)) so);
      fills = g.partial ∙ sym (ap (λ (a : Answer Laid). buffer_after a buf₁) so);
    }

    on : Saves (laid_in state requests store slots reader buf ids) out (gives size') out' → (length row' ≡ connection_slots) × Session (connection_of row') (rooms requests' store' slots₁) l
    on p =
        let s : Session x.connection (rooms requests' store' slots₁) l =
        Session.restored (reader_of reader) buf (ids_of ids) out size' out' p (rooms requests₁ store₁ slots₁) buf₁ (x.connection, (x.reader, x.ids)) (rooms requests' store' slots₁) buf' below k in
        let b = ap connection_of g.connection ∙ connection_back row x.connection long (legal_small _ (session_sound s).order) in
        (ap length g.connection ∙ row_long row x.connection long, subst (λ (c : Connection). Session c (rooms requests' store' slots₁) l) (sym b) s)

  -- both were given, as 0 was returned
  read : (a : Answer Laid) → a ≡ answer → Within (up_to 19) a → GivesLaid a row requests₁ store₁ reader₁ buf₁ ids₁ row' requests' store' reader' buf' ids' 0 → Saves (laid_in state requests store slots reader buf ids) out (gives size') out'
      → (length row' ≡ connection_slots) × Session (connection_of row') (rooms requests' store' slots₁) l
  read (gives x) e w g p = on x e g p
  read (refuses m) e w g p = absurd (never w g.returns)

  wrote : (a : Answer ℕ) → Saves (laid_in state requests store slots reader buf ids) out a out' → Within (up_to 19) a → 0 ≡ returned a → (size' ∷ []) ≡ shown_of number a (size ∷ []) → Saves (laid_in state requests store slots reader buf ids) out (gives size') out'
  wrote (gives n) p w z v = subst (λ (m : ℕ). Saves (laid_in state requests store slots reader buf ids) out (gives m) out') (sym (shown_at 0 v)) p
  wrote (refuses m) p w z v = absurd (never w z)

  -- RESTORED: the session goes on in the rows and rooms that it was read into.
  pub restored_session : XmSave state requests store slots reader buf ids out size out' size' 0 → XmRestore (take size' out') row requests₁ store₁ slots₁ reader₁ buf₁ ids₁ row' requests' store' reader' buf' ids' 0
      → (length row' ≡ connection_slots) × Session (connection_of row') (rooms requests' store' slots₁) l
  restored_session y g =
      read answer refl (restored_within (rows_fit row reader₁ ids₁) (take size' out') (rooms requests₁ store₁ slots₁) buf₁) g
      (wrote y.answer y.promise (subst (λ (a : Answer ℕ). Within (up_to 19) a) (sym y.promise.answers) (saved_within (laid_in state requests store slots reader buf ids) (length out))) y.number y.values)
