use Rattle.std.proofs.Common.{◌≡◌, refl, sym, ap, ◌∙◌, ℕ, ◌+◌, ◌*◌, ◌≤◌, ◌<◌, zero-add, List, arith, length, set, length-set}
use Rattle.octets.specs.Put.{put, put_none, set_behind}
use Rattle.octets.specs.Field.{field, fields, length_fields, fields_behind}
use Rattle.packet.specs.Packet.{least_packet}
use Rattle.xc_misc.specs.Replies.{ids_of}
use Rattle.xc_misc.proofs.reply.read_ids.Goals as goal

none : (order : ℕ) (packet ids : List ℕ) → ids ≡ put ids 0 (ids_of order 0 packet)
unfolding ids_of fields
none order packet ids = sym (put_none ids 0)

turn : (order i x : ℕ) (packet ids₀ ids : List ℕ) → i < length ids₀ → x ≡ field order (least_packet + 4 * i) 4 packet → ids ≡ put ids₀ 0 (ids_of order i packet)
    → set ids i x ≡ put ids₀ 0 (ids_of order (i + 1) packet)
unfolding ids_of
turn order i x packet ids₀ ids h f e =
    let z : i ≡ 0 + i = sym (zero-add i) in
    (λ k. set (e k) (z k) (f k))
    ∙ set_behind ids₀ 0 i (fields order 4 least_packet i packet) (field order (least_packet + 4 * i) 4 packet) (length_fields order 4 least_packet i packet) (omega arith)
    ∙ ap (put ids₀ 0) (sym (fields_behind order 4 least_packet i packet))

done : (order count i : ℕ) (packet ids₀ ids : List ℕ) → i ≤ count → count ≤ i → ids ≡ put ids₀ 0 (ids_of order i packet) → ids ≡ put ids₀ 0 (ids_of order count packet)
done order count i packet ids₀ ids h f e =
    let q : i ≡ count = omega arith in
    e ∙ ap (λ (n : ℕ). put ids₀ 0 (ids_of order n packet)) q

pub loop-i-init : goal.loop-i-init
loop-i-init c = record { is = none _ _ _; long = refl }

pub loop-i-preserved : goal.loop-i-preserved
loop-i-preserved c = record { is = turn _ _ _ _ _ _ (omega arith) c.get_u32.ensures c.loop-i.invariant.is; long = simp length-set (omega arith) }
