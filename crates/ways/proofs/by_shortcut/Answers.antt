use Rattle.std.proofs.Common.{arith, ◌∙◌, sym, ap, ◌<◌, length, w32}
use mir.ValLaws.{to_z-of_z}
use Rattle.scaling.specs.Scaling.{shortcut}
use Rattle.ways.proofs.Painting.{there, shortened}
use Rattle.ways.proofs.by_shortcut.Goals as goal

pub returns : goal.returns
returns g c = let l = g.met.C.Coefficient.numbered in let a = c.args in
    let here : 0 < length a.coeff.now = omega (arith, l.long a.coeff.now, there c.requires.ready) in
    let first = c.wide.ensures ∙ sym (l.read a.coeff.now 0 c.index-coeff-0.result here c.index-coeff-0.is) in
    rw (l.written a.coeff.now 0 c.zero.result, c.zero.ensures)
    (shortened c.requires.ready c.maximum-top.ensures
    (to_z-of_z w32 _ (record { sfits = c.shortcut-v.type_inv }) ∙ c.shortcut-v.ensures.0
    ∙ ap (shortcut a.plan) (to_z-of_z w32 _ (record { sfits = c.wide.type_inv }) ∙ first)) c.shift_block.ensures)
