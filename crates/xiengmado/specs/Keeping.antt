-- What a call writes into the row that its state was read from is the state that it leaves. Assumes nothing.
use Rattle.std.specs.Prelude.{◌≡◌, refl, Bool, true, false, List, ℕ}
use Rattle.std.proofs.Common.{sym, ap, subst, ◌∙◌, arith}
use Rattle.octets.specs.Logic.{apart}
use Rattle.refusal.specs.Answer.{Answer, gives, refuses}
use Rattle.model.specs.Reading.{Rooms}
use Rattle.model.specs.Promise.{Done, answer_of, guarded, guarded_on, guarded_off}
use Rattle.model.specs.Sound.{soundb}
use Rattle.model.specs.declared.Connection.{Connection}
use Rattle.rows.specs.State.{fits, connection_of}
use Rattle.rows.specs.Theorems.{connection_unfit, kept_row_lem}
use Rattle.answers.specs.Exported.{Kept, shown_of}
use Rattle.answers.specs.Shown.{state_row, kept_in}

-- where something was given, the state was sound,
pub gave : {A B : Type 0} (f : A → B) (c : Connection) (r : Rooms) (e : Answer (Done A)) (x : B × Connection) → gives x ≡ answer_of f (guarded c r e) → (soundb c r ≡ true) × (gives x ≡ answer_of f e)
unfolding answer_of
gave f c r e x q = go (soundb c r) refl
  where
    go : (b : Bool) → soundb c r ≡ b → (soundb c r ≡ true) × (gives x ≡ answer_of f e)
    go true h = (h, q ∙ ap (answer_of f) (guarded_on c r e h))
    go false h =
        let z : gives x ≡ refuses 9 = q ∙ ap (answer_of f) (guarded_off c r e h) in absurd (let y : ◌≡◌ {A = ℕ} 0 1 = cc in omega arith)

-- so that its row is one of a state
pub sound_fits : (s : List ℕ) (r : Rooms) → soundb (connection_of s) r ≡ true → fits s ≡ true
sound_fits s r h = go (fits s) refl
  where
    go : (b : Bool) → fits s ≡ b → fits s ≡ true
    go true e = e
    go false e = apart h (connection_unfit s r e)

agree : {A B : Type 0} (f : A → B) (s : List ℕ) (r : Rooms) (e : Answer (Done A)) (k : Answer (B × Connection)) → k ≡ answer_of f (guarded (connection_of s) r e) → shown_of (kept_in s) k s ≡ shown_of (state_row s) k s
agree f s r e (refuses n) q = refl
agree f s r e (gives x) q = kept_row_lem s x.1 (sound_fits s r (gave f (connection_of s) r e x q).0)

-- An export keeps the state that it is handed.
pub kept_back : {A B : Type 0} {P : Answer (B × Connection) → Type 0} {show : B × Connection → List ℕ} {v v' s s' : List ℕ} {code : ℕ} {k : Answer (B × Connection)} (f : A → B) (r : Rooms) (e : Answer (Done A))
    → Kept (λ a. a ≡ k) show (kept_in s) v v' s s' code → k ≡ answer_of f (guarded (connection_of s) r e) → P k → Kept P show (state_row s) v v' s s' code
kept_back {B = B} {P = P} {s = s} {k = k} f r e x h p =
    let q = x.exported.promise in
    record {
      exported = record { answer = x.exported.answer; promise = subst P (sym q) p; number = x.exported.number; values = x.exported.values };
      state =
          x.state ∙ ap (λ (a : Answer (B × Connection)). shown_of (kept_in s) a s) q ∙ agree f s r e k h ∙ sym (ap (λ (a : Answer (B × Connection)). shown_of (state_row s) a s) q);
    }
