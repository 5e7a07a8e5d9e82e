-- Laws of `specs/Deciding.antt`. Assumes nothing.
use Rattle.std.specs.Prelude.{◌≡◌, refl, Bool, true, false, not, List, ℕ, ◌≤◌, ltb, length}
use Rattle.std.proofs.Common.{ap, ◌∙◌, ltb-false}
use Rattle.octets.specs.Logic.{apart, both_yes}
use Rattle.refusal.specs.Answer.{gives, refuse, pass, pass_agree, pass_refuse, pass_pass}
use Rattle.packet.specs.Packet.{least_packet, most_packet, code_of, unnumbered}
use Rattle.model.specs.Client.{Client}
use Rattle.model.specs.Model.{packet_number, Asked, asked_of, claimed, ahead, decide_by, decide, take_in, enqueue_packet}
use Rattle.model.specs.Deciding.{filed_by}

-- A numbered packet that is not ahead is of a request that was sent.
pub ahead_not : (code n written : ℕ) → unnumbered code ≡ false → ahead code n written ≡ false → n ≤ written
unfolding ahead
ahead_not code n written h e = go (ltb written n) refl
  where
    go : (b : Bool) → ltb written n ≡ b → n ≤ written
    go true f = apart (both_yes (ltb written n) (not (unnumbered code)) f (ap not h)) e
    go false f = ltb-false written n f

by_filed : (c : Client) (p : List ℕ) (n : ℕ) (a : Asked) → pass (decide_by c p n a) (λ t. gives (take_in c p t)) ≡ filed_by c p n a
unfolding decide_by pass
by_filed c p n a =
    pass_refuse _ 20 _ _
    ∙ ap (refuse (ahead (code_of p) n c.numbers.written) 20) (pass_refuse _ 4 _ _ ∙ ap (refuse (ltb (length c.waiting) (claimed p a)) 4) (pass_refuse _ 5 _ _))

-- 1, 2, 3, 20, 4 and 5 in their order
pub enqueue_chain : (c : Client) (p : List ℕ) → enqueue_packet c p
    ≡ refuse (ltb (length p) least_packet) 1 (refuse (ltb most_packet (length p)) 2 (pass (packet_number c p) (λ n. filed_by c p n (asked_of c n))))
unfolding enqueue_packet decide
enqueue_chain c p =
    pass_refuse _ 1 _ _
    ∙ ap (refuse (ltb (length p) least_packet) 1)
    (pass_refuse _ 2 _ _
    ∙ ap (refuse (ltb most_packet (length p)) 2) (pass_pass (packet_number c p) _ _ ∙ pass_agree (packet_number c p) _ _ (λ n e. by_filed c p n (asked_of c n))))
