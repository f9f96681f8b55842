-- `drive::turns` is safe and ends, and hands on what the job writes of its input, each part once and in its place.
use Rattle.std.proofs.Common.{◌≡◌, subst, arith, rules}
use Rattle.task.specs.Jobs.{task_of}
use Rattle.task.specs.declared.Turn.{Turn}
use Rattle.written.proofs.Held.{begin, next}
use Rattle.written.proofs.Runs.{After, after, minds_none}
use Rattle.drive.proofs.Buffers.{counted, kept, handed, refilled}
use Rattle.drive.proofs.turns.Goals as goal
use Rattle.drive.proofs.turns.Goals.{After-step, in-Wrote, in-Full+in_ok-hand_on-in-Full, in-More+in_ok-hand_on-in-More+in_ok-refill-in-More}

-- what the step did
module _ (c : After-step) where
  abbrev Did : Turn → Type 0
  Did = let l = c.loop-turn in let o = c.step.new.self in
      After c.args.job l.version l.«record» l.invariant.thought l.invariant.runs l.input.is_last c.step.new.sums o.output o.error

  did : {a : Turn} → c.step.result ≡ a → Did a
  did is = let l = c.loop-turn in let o = c.step.new.self in
      subst Did is (after c.args.job l.version l.«record» l.invariant.thought l.invariant.runs l.input.is_last c.step.new.sums o.output o.error
      l.sums l.invariant.minds c.step.result (c.step.ensures.turned l.invariant.thought))

pub loop-turn-init : goal.loop-turn-init
loop-turn-init c =
    rw (c.new-input.ensures, c.new-out.ensures) (record {
      thought = (task_of c.args.job).start;
      runs = begin (task_of c.args.job) _ _ _;
      minds = minds_none c.args.job;
      few = omega arith;
      sizes = (search rules, (search rules, (search rules, search rules)));
    })

pub hand_on-requires-clause-comes_next : goal.hand_on-requires-clause-comes_next
hand_on-requires-clause-comes_next c =
    next (task_of c.args.job)
    (kept (task_of c.args.job) (did (goal.at.hand_on-requires-clause-comes_next c).After-step c.in-Full.is).0 c.step.ensures.kept)

pub hand_on-requires-in-More-clause-comes_next : goal.hand_on-requires-in-More-clause-comes_next
hand_on-requires-in-More-clause-comes_next c =
    next (task_of c.args.job)
    (kept (task_of c.args.job) (did (goal.at.hand_on-requires-in-More-clause-comes_next c).After-step c.in-More.is).0 c.step.ensures.kept)

pub refill-requires : goal.refill-requires
refill-requires c =
    let m = did (goal.at.refill-requires c).After-step c.in-More.is in
    (m.0.before_end, (omega (arith, m.1.1), (omega (arith, m.0.inside, c.loop-turn.invariant.sizes), omega (arith, c.loop-turn.invariant.few))))

pub finish-requires-clause-comes_last : goal.finish-requires-clause-comes_last
finish-requires-clause-comes_last c =
    let k = c.step.ensures.kept.counts in rw (k.0, k.1) (did (goal.at.finish-requires-clause-comes_last c).After-step c.in-Stop.is).1.1

pub finish-requires-clause-inside : goal.finish-requires-clause-inside
finish-requires-clause-inside c =
    let x = did (goal.at.finish-requires-clause-inside c).After-step c.in-Stop.is in
    omega (arith, x.0, x.1.0, c.step.ensures.kept.same_lengths, c.loop-turn.invariant.sizes)

pub loop-turn-preserved : goal.loop-turn-preserved
loop-turn-preserved c =
    let l = c.loop-turn in let i = l.invariant in let s = (goal.at.loop-turn-preserved c).After-step in let t = task_of c.args.job in
    let k = c.step.ensures.kept in
    elim c.match-step.branch [
      | in-Wrote w ↦ let x = did s w.in-Wrote.is in
          rw (w.input-is, w.out-is, w.version-is, w.record-is) (record {
            thought = x.0;
            runs = counted t x.1.0 k;
            minds = x.1.1;
            few = omega (arith, i.few, k.counts);
            sizes = omega (arith, i.sizes, k.same_lengths, c.step.auto);
          })
      | in-Full+in_ok-hand_on-in-Full w ↦ let x = did s w.in-Full.is in let h = w.hand_on.ensures in
          rw (w.input-is, w.out-is, w.version-is, w.record-is) (record {
            thought = i.thought;
            runs = handed t _ (kept t x.0 k) (record { none = h.none; sent = h.sent; said = h.said });
            minds = x.1;
            few = omega (arith, i.few, h, k, x.0.room, x.0.error_room, i.sizes);
            sizes = omega (arith, i.sizes, h.same_lengths, k.same_lengths, c.step.auto);
          })
      | in-More+in_ok-hand_on-in-More+in_ok-refill-in-More w ↦
          let x = did s w.in-More.is in let h = w.hand_on-in-More.ensures in let m = w.in_ok-refill-in-More.ensures in
          rw (w.input-is, w.out-is, w.version-is, w.record-is) (record {
            thought = i.thought;
            runs = refilled t l.input (handed t _ (kept t x.0 k) (record { none = h.none; sent = h.sent; said = h.said })) m i.sizes.0;
            minds = x.1.0;
            few = omega (arith, i.few, m, h, k, x.0.room, x.0.error_room, i.sizes);
            sizes = omega (arith, i.sizes, m, h.same_lengths, k.same_lengths, c.step.auto);
          })
    ]
