use Rattle.std.proofs.Common.{◌≡◌, refl, sym, ap, ◌∙◌, Bool, true, false, List, ℕ, ◌+◌, ◌-◌, ◌≤◌, ◌<◌, arith, drop}
use Rattle.octets.specs.Put.{cut}
use Rattle.held.specs.General.{choose_yes, choose_no}
use Rattle.held.specs.Head.{header_size, num_of, len_of, fds_of, kind_of}
use Rattle.held.specs.Reading.{read_all, records}
use Rattle.held.specs.Rest.{Turn, rest_all, rest_none, turn, turn_room, turn_behind}
use Rattle.held.specs.Find.{sought, suits, wanted}
use Rattle.held.proofs.find.find.Goals as goal
use Rattle.held.proofs.find.find.Invariants.{Inv}
use Rattle.std.specs.Prelude.{Some, None}

module _ (s : List ℕ) (kind : ℕ) (any : Bool) (number start end at before : ℕ) (I : Inv s kind any number start end at before) where
  ends : end ≤ at → None ≡ sought (wanted kind any number) start 0 (read_all (cut start (end - start) s))
  unfolding sought
  ends h = sym (I.same ∙ ap (sought (wanted kind any number) at before) (rest_none s at end I.hs I.rest h))

  module _ (below : at < end) (b : Bool) (e : b ≡ suits kind any number (kind_of (drop at s)) (num_of (drop at s))) where
    abbrev T : Turn s at end I.hs
    T = turn s at end I.hs I.rest below

    is-wanted : b ≡ wanted kind any number T.it
    is-wanted = e ∙ (λ k. suits kind any number (T.here.kind k) (T.here.number k))

    hit : (len fds n : ℕ) → b ≡ true → len ≡ len_of (drop at s) → fds ≡ fds_of (drop at s) → n ≡ num_of (drop at s)
        → Some (record { at = at; len = len; number = n; fds = fds; before = before }) ≡ sought (wanted kind any number) start 0 (read_all (cut start (end - start) s))
    unfolding sought
    hit len fds n t p q r =
        (λ k. Some (record { at = at; len = (p ∙ T.here.len) k; number = (r ∙ T.here.number) k; fds = (q ∙ T.here.fds) k; before = before }))
        ∙ sym (choose_yes _ _ _ (sym is-wanted ∙ t))
        ∙ ap (sought (wanted kind any number) at before) (sym T.is)
        ∙ sym I.same

    again : (len fds : ℕ) → b ≡ false → len ≡ len_of (drop at s) → fds ≡ fds_of (drop at s) → fds < 256 → Inv s kind any number start end (at + (header_size + len)) (before + fds)
    unfolding sought
    again len fds t p q v =
        record {
          hs = T.others;
          rest = turn_behind s at end I.hs I.rest below len p;
          few = omega (arith, p, turn_room s at end I.hs I.rest below, I.few);
          same = I.same
              ∙ ap (sought (wanted kind any number) at before) T.is
              ∙ choose_no _ _ _ (sym is-wanted ∙ t)
              ∙ (λ k. sought (wanted kind any number) (at + (header_size + sym (p ∙ T.here.len) k)) (before + sym (q ∙ T.here.fds) k) T.others);
        }

pub loop-at-init : goal.loop-at-init
unfolding records
loop-at-init c = record { hs = records c.args.window c.args.store.now; rest = rest_all _ _ c.requires; few = omega arith; same = refl }

pub length_at-len-requires : goal.length_at-len-requires
length_at-len-requires c = let z = turn_room _ _ _ _ c.loop-at.invariant.rest (omega arith) in omega (arith, z)

pub count_at-fds-requires : goal.count_at-fds-requires
count_at-fds-requires c = let z = turn_room _ _ _ _ c.loop-at.invariant.rest (omega arith) in omega (arith, z)

pub hits-requires : goal.hits-requires
hits-requires c = let z = turn_room _ _ _ _ c.loop-at.invariant.rest (omega arith) in omega (arith, z)

pub number_at-requires : goal.number_at-requires
number_at-requires c = let z = turn_room _ _ _ _ c.loop-at.invariant.rest (omega arith) in omega (arith, z)

pub returns-then-hits : goal.returns-then-hits
unfolding records
returns-then-hits c = hit _ _ _ _ _ _ _ _ c.loop-at.invariant (omega arith) _ c.hits.ensures _ _ _ c.if-hits.true c.length_at-len.ensures c.count_at-fds.ensures c.number_at.ensures

pub overflow_add-at : goal.overflow_add-at
overflow_add-at c = let z = turn_room _ _ _ _ c.loop-at.invariant.rest (omega arith) in omega (arith, z)

pub overflow_add-at-in-loop-at : goal.overflow_add-at-in-loop-at
overflow_add-at-in-loop-at c = let z = turn_room _ _ _ _ c.loop-at.invariant.rest (omega arith) in omega (arith, z)

pub loop-at-preserved : goal.loop-at-preserved
loop-at-preserved c = again _ _ _ _ _ _ _ _ c.loop-at.invariant (omega arith) _ c.hits.ensures _ _ c.if-hits.false c.length_at-len.ensures c.count_at-fds.ensures (omega arith)

pub returns : goal.returns
unfolding records
returns c = ends _ _ _ _ _ _ _ _ c.loop-at.invariant c.loop-at-test.false
