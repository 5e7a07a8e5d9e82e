use Rattle.std.proofs.Common.{◌∙◌, refl, ap, length, arith}
use Rattle.listing.specs.Digits.{written_is}
use Rattle.listing.specs.Laws.{item_wrote}
use Rattle.listing.proofs.lines.item.Goals as goal

pub returns : goal.returns
returns c =
    let t = c.as_bytes-text.ensures.value in
    item_wrote _ _ _ _ _ _ _ c.requires (omega (arith, ap length t, c.format.ensures.fits)) (t ∙ c.format.ensures.text ∙ written_is c.args.n c.ranges.n.fits) refl c.copy_in.ensures
