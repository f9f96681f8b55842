use Rattle.std.proofs.Common.{◌≡◌, List, ℕ, ◌*◌, ◌≤◌, length}
use Rattle.task.specs.Steps.{mind}
use Rattle.task.specs.Stepping.{Minds, place_at}
use Rattle.task.specs.Jobs.{Mind, task_of}
use Rattle.task.specs.declared.Job.{Job}
use Rattle.written.proofs.Held.{Running}
use Rattle.drive.specs.declared.Input.{Input}
use Rattle.drive.specs.declared.Output.{Output}
use Rattle.drive.proofs.turns.Given as goal

pub record Held (job : Job) (input : Input) (out : Output) (sums : List ℕ) (version i turns : ℕ) : Type 0 where
  pub thought : Mind job
  pub runs : Running (task_of job) input.buffer out.output out.error input.at input.have out.put out.told input.read out.sent out.said
      (place_at version i thought)
  pub minds : Minds job sums (mind (task_of job) (place_at version i thought))
  -- no count outgrows its 64 bits
  pub few : (i ≤ turns) × ((input.read ≤ turns * 32768) × ((out.sent ≤ turns * 32768) × (out.said ≤ turns * 49152)))
  pub sizes : (32768 ≡ length input.buffer) × ((32768 ≡ length out.output) × ((49152 ≡ length out.error) × (276 ≡ length sums)))

abbrev pub invariant-loop-turn : goal.invariant-loop-turn
invariant-loop-turn l = Held l.job l.input l.out l.sums l.version l.«record» l.turn
