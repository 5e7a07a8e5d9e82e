use Rattle.std.proofs.Common.{arith, refl, ap, ◌∙◌}
use Rattle.answers.specs.Exported.{exported_by}
use Rattle.answers.specs.Shown.{kind_number}
use Rattle.xiengmado.specs.Looking.{here, nowhere, header_there, looked}
use Rattle.xiengmado.proofs.rooms.xm_record_at.Goals as goal

pub returns-then-store-end : goal.returns-then-store-end
returns-then-store-end c = exported_by _ (nowhere (λ l h b. omega arith)) refl refl

pub returns-then-end-at : goal.returns-then-end-at
returns-then-end-at c = exported_by _ (nowhere (λ l h b. omega arith)) refl refl

pub returns-in_default : goal.returns-in_default
returns-in_default c = exported_by _ (nowhere (λ l h b. c.record_at.ensures.none c.in_default.is b)) refl refl

pub kind_at-of-requires : goal.kind_at-of-requires
kind_at-of-requires c = header_there _ _ _ c.if-end-at.false c.if-store-end.false (c.record_at.ensures.some _ c.in-Some.is).0

pub number_at-requires : goal.number_at-requires
number_at-requires c = header_there _ _ _ c.if-end-at.false c.if-store-end.false (c.record_at.ensures.some _ c.in-Some.is).0

pub length_at-requires : goal.length_at-requires
length_at-requires c = header_there _ _ _ c.if-end-at.false c.if-store-end.false (c.record_at.ensures.some _ c.in-Some.is).0

pub count_at-requires : goal.count_at-requires
count_at-requires c = header_there _ _ _ c.if-end-at.false c.if-store-end.false (c.record_at.ensures.some _ c.in-Some.is).0

pub returns : goal.returns
returns c = exported_by _ (here c.if-end-at.false c.if-store-end.false (c.record_at.ensures.some _ c.in-Some.is).0) refl (looked _ _ _ c.if-end-at.false c.if-store-end.false (c.record_at.ensures.some _ c.in-Some.is).0 _ _ _ _ (c.kind_number.ensures ∙ ap kind_number c.kind_at-of.ensures) c.number_at.ensures c.length_at.ensures c.count_at.ensures)
