use Rattle.std.proofs.Common.{sym, ap}
use mathlib.Core.Logic.{inl, inr}
use Rattle.task.specs.Blocks.{blocks}
use Rattle.task.specs.Salvage.{salvage}
use Rattle.task.specs.Totalling.{totalling}
use Rattle.task.specs.Jobs.{task_of}
use Rattle.task.specs.declared.Job.{Job}
use Rattle.task.proofs.Job.is_past.Goals as goal

pub returns-in-Blocks : goal.returns-in-Blocks
unfolding blocks salvage
returns-in-Blocks c = elim c.in-Blocks.is [
  | inl e ↦ sym (ap (λ (j : Job). (task_of j).past c.args.«record») e)
  | inr e ↦ sym (ap (λ (j : Job). (task_of j).past c.args.«record») e)
]

pub returns-in-Totals : goal.returns-in-Totals
unfolding totalling
returns-in-Totals c = rw c.from.ensures (sym (ap (λ (j : Job). (task_of j).past c.args.«record») c.in-Totals.is))
