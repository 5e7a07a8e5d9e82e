-- Laws of reading a reply: what is read of it stands within it. Assumes nothing.
use Rattle.std.specs.Prelude.{◌≡◌, refl, Bool, true, false, List, ℕ, ◌+◌, ◌≤◌, length, take}
use Rattle.std.proofs.Common.{sym, ◌∙◌, subst, length-take-le}
use native.Mathlib.Omega.{arith}
use Rattle.std.specs.Borrow.{Bor}
use borrow.Author.Tests.{ltb-false, eqb-true, not-false}
use Rattle.octets.specs.Logic.{choose}
use Rattle.refusal.specs.Answer.{Answer, gives, refuse}
use Rattle.connect.specs.Handshake.{reply_length}
use Rattle.connect.specs.Sound.{Sound, sound_is}
use Rattle.connect.specs.AimLaws.{complete_reply, reply_held, target_least}
use Rattle.connect.specs.Setup.{Reading, authenticate, authenticate_of, read_failed, read_success, read_reply, setup, vendor_place, reason_place, Shown}
use Rattle.connect.specs.declared.handshake.Connect.{Connect}
use Rattle.connect.specs.declared.reply.TextAt.{TextAt}

-- both texts end within n bytes
pub record Within (n : ℕ) (a : Answer Reading) : Type 0 where
  pub vendor_within : (vendor_place a).start + (vendor_place a).size ≤ n
  pub reason_within : (reason_place a).start + (reason_place a).size ≤ n

within_refuse : (n : ℕ) (b : Bool) (k : ℕ) (a : Answer Reading) → (b ≡ false → Within n a) → Within n (refuse b k a)
unfolding refuse
within_refuse n true k a h = record { vendor_within = omega arith; reason_within = omega arith }
within_refuse n false k a h = h refl

within_choose : (n : ℕ) (b : Bool) (x y : Answer Reading) → Within n x → Within n y → Within n (choose b x y)
unfolding choose
within_choose n true x y h k = h
within_choose n false x y h k = k

within_more : (n m : ℕ) (a : Answer Reading) → n ≤ m → Within n a → Within m a
within_more n m a k h = record { vendor_within = omega (arith, h.vendor_within); reason_within = omega (arith, h.reason_within) }

module _ (o : ℕ) (p : List ℕ) where
  within_failed : Within (length p) (read_failed o p)
  unfolding read_failed
  within_failed = within_refuse _ _ _ _ (λ e. record { vendor_within = omega arith; reason_within = ltb-false _ _ e })

  within_success : Within (length p) (read_success o p)
  unfolding read_success
  within_success = within_refuse _ _ _ _ (λ e. record { vendor_within = ltb-false _ _ e; reason_within = omega arith })

  within_authenticate : reply_length o p ≡ length p → Within (length p) (gives (authenticate (authenticate_of o p)))
  unfolding authenticate_of reply_length
  within_authenticate h = record { vendor_within = omega arith; reason_within = omega arith }

  pub within_reply : reply_length o p ≡ length p → Within (length p) (read_reply o p)
  unfolding read_reply
  within_reply h =
      within_choose _ _ _ _ within_failed
      (within_choose _ _ _ _ within_success
      (within_choose _ _ _ _ (within_authenticate h) (record { vendor_within = omega arith; reason_within = omega arith })))

-- the reply that a complete handshake holds is as long as it says
pub reply_whole : (c : Connect) (s : List ℕ) → Sound c s → c.filled ≡ c.target → reply_length c.order (take c.target s) ≡ length (take c.target s)
reply_whole c s h e =
    reply_held c.order s c.target (target_least c s h) h.target_fits ∙ complete_reply c s h e ∙ sym (length-take-le c.target s h.target_fits)

-- so both texts stand within the buffer.
pub within_setup : (c : Connect) (s : List ℕ) → Within (length s) (setup c s)
unfolding setup
within_setup c s =
    within_refuse _ _ _ _ (λ p.
    within_refuse _ _ _ _ (λ q.
    let h : Sound c s = sound_is c s (not-false _ p) in
    within_more _ _ _ (omega (arith, length-take-le c.target s h.target_fits, h.target_fits)) (within_reply c.order (take c.target s) (reply_whole c s h (eqb-true _ _ (not-false _ q))))))

-- and so does the place that a call found; what stands there is shown
pub place_within : {p q : TextAt} {n : ℕ} → p ≡ q → q.start + q.size ≤ n → p.start + p.size ≤ n
place_within {n = n} e h = subst (λ (a : TextAt). a.start + a.size ≤ n) (sym e) h

pub place_shown : {p q : TextAt} {b r : Bor (List ℕ)} → p ≡ q → Shown p b r → Shown q b r
place_shown {b = b} {r} e h = subst (λ (a : TextAt). Shown a b r) e h
