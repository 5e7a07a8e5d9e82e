-- The class as the enum says it, and what the class decides. Assumes nothing.
use Rattle.std.specs.Prelude.{◌≡◌, refl, Bool, true, false, List, [], ◌∷◌, ℕ, ◌+◌, ◌%◌, ◌<◌, zero, suc, eqb, take}
use Rattle.std.proofs.Common.{sym, ap, ◌∙◌, arith}
use Rattle.std.proofs.Math.Decide.{ℕ_discrete}
use borrow.Author.Tests.{eq-eqb, ne_eqb}
use Rattle.octets.specs.Logic.{choose, either}
use Rattle.packet.specs.Packet.{error_code, reply_code, sent_bit, was_sent, generic_event, PacketClass, error, reply, event, generic, class_of, class_number, keymap_notify, unnumbered, packet_class, has_length, is_plain, is_event}
use Rattle.packet.specs.declared.Class.{Class}

-- what the enum says
abbrev pub says_class : Class → PacketClass
says_class Class.Error = error
says_class Class.Reply = reply
says_class Class.Event = event false
says_class Class.SentEvent = event true
says_class Class.Generic = generic false
says_class Class.SentGeneric = generic true

-- the one that says so
abbrev pub classed : PacketClass → Class
classed error = Class.Error
classed reply = Class.Reply
classed (event false) = Class.Event
classed (event true) = Class.SentEvent
classed (generic false) = Class.Generic
classed (generic true) = Class.SentGeneric

-- Two that say the same are equal.
pub class_back : (x : Class) → classed (says_class x) ≡ x
class_back Class.Error = refl
class_back Class.Reply = refl
class_back Class.Event = refl
class_back Class.SentEvent = refl
class_back Class.Generic = refl
class_back Class.SentGeneric = refl

pub says_back : (k : PacketClass) → says_class (classed k) ≡ k
says_back error = refl
says_back reply = refl
says_back (event false) = refl
says_back (event true) = refl
says_back (generic false) = refl
says_back (generic true) = refl

pub class_is : (x : Class) (k : PacketClass) → says_class x ≡ k → x ≡ classed k
class_is x k e = sym (class_back x) ∙ ap classed e

pub class_one : (x y : Class) → says_class x ≡ says_class y → x ≡ y
class_one x y e = class_is x (says_class y) e ∙ class_back y

-- So do two numbers: a class is told by its number.
pub class_at : ℕ → PacketClass
class_at n =
    choose (eqb n 0) error
    (choose (eqb n 1) reply
    (choose (eqb n 2) (event false) (choose (eqb n 3) (event true) (choose (eqb n 4) (generic false) (generic true)))))

pub number_back : (k : PacketClass) → class_at (class_number k) ≡ k
unfolding class_at choose
number_back error = refl
number_back reply = refl
number_back (event false) = refl
number_back (event true) = refl
number_back (generic false) = refl
number_back (generic true) = refl

pub class_told : (j k : PacketClass) → class_number j ≡ class_number k → j ≡ k
class_told j k e = sym (number_back j) ∙ ap class_at e ∙ number_back k

-- The first bytes of a packet have its class.
pub class_taken : (n : ℕ) (p : List ℕ) → 0 < n → packet_class (take n p) ≡ packet_class p
class_taken zero p h = absurd (let z : ⊥ = omega arith in z)
class_taken (suc n) [] h = refl
class_taken (suc n) (x ∷ p) h = refl

-- A plain event is an event, and has no length.
pub plain_event : (k : PacketClass) → is_plain k ≡ true → (is_event k ≡ true) × (has_length k ≡ false)
plain_event error h = absurd (let z : ◌≡◌ {A = ℕ} 0 1 = cc in omega arith)
plain_event reply h = absurd (let z : ◌≡◌ {A = ℕ} 0 1 = cc in omega arith)
plain_event (event sent) h = (refl, refl)
plain_event (generic sent) h = absurd (let z : ◌≡◌ {A = ℕ} 0 1 = cc in omega arith)

-- ---- each way that a code can come out

module _ (code : ℕ) where
  pub class_error : code ≡ error_code → class_of code ≡ error
  unfolding class_of choose
  class_error e = simp (eq-eqb _ _ e)

  module _ (a : code ≡ error_code → ⊥) where
    pub class_reply : code ≡ reply_code → class_of code ≡ reply
    unfolding class_of choose
    class_reply e = simp (ne_eqb _ _ a, eq-eqb _ _ e)

    module _ (b : code ≡ reply_code → ⊥) where
      pub class_generic : code % sent_bit ≡ generic_event → class_of code ≡ generic (was_sent code)
      unfolding class_of choose
      class_generic e = simp (ne_eqb _ _ a, ne_eqb _ _ b, eq-eqb _ _ e)

      pub class_event : (code % sent_bit ≡ generic_event → ⊥) → class_of code ≡ event (was_sent code)
      unfolding class_of choose
      class_event e = simp (ne_eqb _ _ a, ne_eqb _ _ b, ne_eqb _ _ e)

-- ---- THE CLASS DECIDES whether a packet is numbered: errors, replies and generic events are, and an event is but for the KeymapNotify.

-- by its class, and of an event by its code without the top bit (02, M-101)
abbrev pub unnumbered_as : PacketClass → ℕ → Bool
unnumbered_as error code = false
unnumbered_as reply code = false
unnumbered_as (event sent) code = eqb (code % sent_bit) keymap_notify
unnumbered_as (generic sent) code = false

module _ (code : ℕ) where
  carries : (code ≡ keymap_notify → ⊥) → (code ≡ sent_bit + keymap_notify → ⊥) → unnumbered code ≡ false
  unfolding unnumbered either
  carries h k = simp (ne_eqb _ _ h, ne_eqb _ _ k)

  plain : code ≡ keymap_notify → unnumbered code ≡ true
  unfolding unnumbered either
  plain e = simp (eq-eqb _ _ e)

  sent : (code ≡ keymap_notify → ⊥) → code ≡ sent_bit + keymap_notify → unnumbered code ≡ true
  unfolding unnumbered either
  sent h e = simp (ne_eqb _ _ h, eq-eqb _ _ e)

  module _ (byte : code < 256) where
    of_event : unnumbered code ≡ eqb (code % sent_bit) keymap_notify
    of_event =
        elim (ℕ_discrete code keymap_notify) [
          | yes e ↦ plain e ∙ sym (eq-eqb (code % sent_bit) keymap_notify (omega arith))
          | no h ↦
              elim (ℕ_discrete code (sent_bit + keymap_notify)) [ yes e ↦ sent h e ∙ sym (eq-eqb (code % sent_bit) keymap_notify (omega arith)) | no k ↦ carries h k ∙ sym (ne_eqb (code % sent_bit) keymap_notify (λ z. omega arith)) ]
        ]

    pub numbered_by_class : unnumbered code ≡ unnumbered_as (class_of code) code
    numbered_by_class =
        elim (ℕ_discrete code error_code) [
          | yes e ↦ by error (class_error code e) (carries (λ z. omega arith) (λ z. omega arith))
          | no a ↦
              elim (ℕ_discrete code reply_code) [
                | yes e ↦ by reply (class_reply code a e) (carries (λ z. omega arith) (λ z. omega arith))
                | no b ↦
                    elim (ℕ_discrete (code % sent_bit) generic_event) [
                      | yes e ↦ by (generic (was_sent code)) (class_generic code a b e) (carries (λ z. omega arith) (λ z. omega arith))
                      | no g ↦
                          by (event (was_sent code)) (class_event code a b g) of_event
                    ]
              ]
        ]
      where
        by : (k : PacketClass) → class_of code ≡ k → unnumbered code ≡ unnumbered_as k code → unnumbered code ≡ unnumbered_as (class_of code) code
        by k e f = f ∙ ap (λ (x : PacketClass). unnumbered_as x code) (sym e)

  -- A packet that carries no number is an event.
  pub unnumbered_class : unnumbered code ≡ true → class_of code ≡ event (was_sent code)
  unnumbered_class h =
      elim (ℕ_discrete code keymap_notify) [
        | yes e ↦ class_event code (λ z. omega arith) (λ z. omega arith) (λ z. omega arith)
        | no p ↦
            elim (ℕ_discrete code (sent_bit + keymap_notify)) [
              | yes e ↦ class_event code (λ z. omega arith) (λ z. omega arith) (λ z. omega arith)
              | no q ↦
                  absurd (let f : unnumbered code ≡ false = carries p q in let z : ◌≡◌ {A = ℕ} 0 1 = cc in omega arith)
            ]
      ]
