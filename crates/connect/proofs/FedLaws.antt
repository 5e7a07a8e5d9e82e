-- Laws of the bytes that a handshake was fed. Assumes nothing.
use Rattle.std.specs.Prelude.{◌≡◌, refl, Bool, true, false, not, List, ℕ, ◌+◌, ◌≤◌, length, take, eqb}
use Rattle.std.proofs.Common.{sym, ap, ◌∙◌, subst, arith, length-take-le, eqb-true}
use Rattle.octets.specs.Logic.{choose, both_right}
use Rattle.octets.specs.Put.{cut, cut_take}
use Rattle.refusal.specs.Answer.{refuses, refuse}
use Rattle.connect.specs.Handshake.{aim, soundb, Progress, waits, complete, filled_to}
use Rattle.connect.specs.Sound.{is_sound}
use Rattle.connect.specs.AimLaws.{aim_held}
use Rattle.connect.specs.Feeding.{state_of, is_complete, is_reply, reply_when, Fed}
use Rattle.connect.specs.Setup.{read_reply, setup, text_at}
use Rattle.connect.specs.SetupLaws.{Within, within_reply}
use Rattle.connect.specs.declared.handshake.Connect.{Connect}
use Rattle.connect.specs.declared.reply.TextAt.{TextAt}

-- they give the answer's parts
filled_count : (o : ℕ) (b : List ℕ) (p : Progress) (s : List ℕ) → Fed o b p s → (state_of p).filled ≡ length b
filled_count o b p s f =
    sym (length-take-le (state_of p).filled s (omega (arith, f.sound.target_fits, f.sound.not_passed))) ∙ ap length f.filled_is

pub state_of_bytes : (o : ℕ) (b : List ℕ) (p : Progress) (s : List ℕ) → Fed o b p s → state_of p ≡ filled_to o b (length b)
state_of_bytes o b p s f =
    let c : Connect = state_of p in
    let n : c.filled ≡ length b = filled_count o b p s f in
    let t : c.target ≡ aim o b (length b) =
    f.sound.target_given
    ∙ sym (aim_held c.order s c.filled (omega (arith, f.sound.target_fits, f.sound.not_passed)))
    ∙ (λ i. aim (f.order_is i) (f.filled_is i) (n i)) in
    λ i. record { order = f.order_is i; filled = n i; target = t i }

-- and the parts give the answer
pub progress_one : (p q : Progress) → state_of p ≡ state_of q → is_complete p ≡ is_complete q → p ≡ q
progress_one (waits c) (waits d) e f = ap waits e
progress_one (waits c) (complete d) e f = absurd (let z : ◌≡◌ {A = ℕ} 0 1 = cc in omega arith)
progress_one (complete c) (waits d) e f = absurd (let z : ◌≡◌ {A = ℕ} 0 1 = cc in omega arith)
progress_one (complete c) (complete d) e f = ap complete e

-- what `setup` says is of them, and so are its texts
pub setup_of_lem : (o : ℕ) (b : List ℕ) (p : Progress) (s : List ℕ) → Fed o b p s → setup (state_of p) s ≡ choose (is_reply o b) (read_reply o b) (refuses 15)
unfolding setup refuse choose
setup_of_lem o b p s f = go (is_reply o b) refl where
  c : Connect
  c = state_of p

  reached_when : eqb c.filled c.target ≡ is_reply o b
  reached_when =
      ap (λ (n : ℕ). eqb c.filled n) f.sound.target_given
      ∙ sym (reply_when c.order s c.filled (omega (arith, f.sound.target_fits, f.sound.not_passed)))
      ∙ (λ i. is_reply (f.order_is i) (f.filled_is i))

  go : (t : Bool) → is_reply o b ≡ t
      → refuse (not (soundb c s)) 9 (refuse (not (eqb c.filled c.target)) 15 (read_reply c.order (take c.target s))) ≡ choose t (read_reply o b) (refuses 15)
  go true e =
      let q : c.filled ≡ c.target = eqb-true _ _ (reached_when ∙ e) in
      let r : take c.target s ≡ b = ap (λ (n : ℕ). take n s) (sym q) ∙ f.filled_is in
      simp (is_sound c s f.sound, reached_when ∙ e, r, f.order_is)
  go false e = simp (is_sound c s f.sound, reached_when ∙ e)

pub within_fed : (o : ℕ) (b : List ℕ) (p : Progress) (s : List ℕ) → Fed o b p s → Within (length b) (setup (state_of p) s)
unfolding choose is_reply
within_fed o b p s f = subst (Within (length b)) (sym (setup_of_lem o b p s f)) (go (is_reply o b) refl) where
  go : (t : Bool) → is_reply o b ≡ t → Within (length b) (choose t (read_reply o b) (refuses 15))
  go true e = within_reply o b (sym (eqb-true _ _ (both_right _ _ e)))
  go false e = record { vendor_within = omega arith; reason_within = omega arith }

pub text_held : (o : ℕ) (b : List ℕ) (p : Progress) (s : List ℕ) → Fed o b p s → (a : TextAt) → a.start + a.size ≤ length b → text_at a s ≡ text_at a b
text_held o b p s f a h =
    let n : (state_of p).filled ≡ length b = filled_count o b p s f in
    sym (cut_take s (state_of p).filled a.start a.size (omega arith)) ∙ ap (cut a.start a.size) f.filled_is
