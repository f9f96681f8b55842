-- What a run holds when what was written is handed on, and when more is read.
use mathlib.Core.Path.{◌≡◌, refl, sym, ap, ◌∙◌}
use mathlib.Core.List.{List, [], ◌++◌}
use Prim.Native.Nat.{ℕ, ◌+◌}
use native.Mathlib.Omega.{arith}
use lib.ListN.{length, take, drop}
use Rattle.task.specs.Task.{Written, both, ahead, Task}
use Rattle.task.specs.Steps.{Place}
use Rattle.written.specs.Following.{remaining}
use Rattle.written.proofs.Held.{Running, flushed, to_the_front, filled}
use Rattle.drive.specs.Buffers.{More, Kept}
use Rattle.drive.specs.declared.Input.{Input}
use Rattle.drive.specs.declared.Output.{Output}

-- what `hand_on` ensures
pub record HandedOn (entry exit : Output) : Type 0 where
  pub none : (exit.put ≡ 0) × (exit.told ≡ 0)
  pub sent : exit.sent ≡ entry.sent + entry.put
  pub said : exit.said ≡ entry.said + entry.told

module _ {S : Type 0} (t : Task S) {p : Place S} where
  -- a step left the counts as they were, or the places too
  pub counted : {input output error : List ℕ} {at have put told read : ℕ} {out out' : Output}
      → Running t input output error at have put told read out.sent out.said p → Kept out out'
      → Running t input output error at have put told read out'.sent out'.said p
  counted r k = rw (k.counts.0, k.counts.1) r

  pub kept : {input output error : List ℕ} {at have read : ℕ} {out out' : Output}
      → Running t input output error at have out.put out.told read out.sent out.said p → Kept out out'
      → Running t input output error at have out'.put out'.told read out'.sent out'.said p
  kept r k = rw (k.places.0, k.places.1) (counted r k)

  pub handed : {input : List ℕ} {at have read : ℕ} (out : Output) {out' : Output}
      → Running t input out.output out.error at have out.put out.told read out.sent out.said p → HandedOn out out'
      → Running t input out'.output out'.error at have out'.put out'.told read out'.sent out'.said p
  handed {input} {at} {have} out {out'} r h =
      let f = flushed t r in let none : both [] [] ≡ both (take out'.put out'.output) (take out'.told out'.error) =
      λ i. both (take (sym h.none.0 i) out'.output) (take (sym h.none.1 i) out'.error) in
      record {
        past = f.past;
        earlier = f.earlier;
        so_far = λ more. f.so_far more ∙ ap (λ (w : Written). ahead f.earlier (ahead w (remaining t p (drop at (take have input) ++ more)))) none;
        read_is = f.read_is;
        sent_is = f.sent_is ∙ sym h.sent;
        said_is = f.said_is ∙ sym h.said;
        before_end = f.before_end;
        inside = f.inside;
        room = omega (arith, h.none);
        error_room = omega (arith, h.none);
      }

  pub refilled : {output error : List ℕ} {put told sent said : ℕ} (input : Input) {input' : Input}
      → Running t input.buffer output error input.at input.have put told input.read sent said p → More input input'
      → 32768 ≡ length input.buffer
      → Running t input'.buffer output error input'.at input'.have put told input'.read sent said p
  refilled input {input'} r m size =
      rw (m.start, m.read)
      (filled t (to_the_front t r m.bytes (omega (arith, r.before_end)) m.same_length) refl
      (omega (arith, m.after)) (omega (arith, m.inside, m.same_length, size)))
