-- A word is put, and the end of the line or a blank and the other words.
use Rattle.std.proofs.Common.{arith, rules}
use Rattle.std.proofs.Math.ListN.{length-append}
use Rattle.numbers.proofs.Writing.{put_then, put_length}
use Rattle.text.proofs.Texts.{last_word, more_words}
use Rattle.text.proofs.+put_line.Goals as goal

pub returns-then-is_empty : goal.returns-then-is_empty
returns-then-is_empty t c =
    rw (c.in-Some.ensures.cases.0, last_word c.in-Some.word.now c.in-Some.others.now (search rules), ← c.as_bytes.ensures.value)
    (put_then c.put_bytes-p.ensures c.put_bytes-then-is_empty.ensures)

pub put_line-requires : goal.put_line-requires
put_line-requires t c =
    let more = more_words c.in-Some.word.now c.in-Some.others.now (search rules) in
    let room = rw (c.in-Some.ensures.cases.0, more, length-append, ← c.as_bytes.ensures.value) at c.requires in let a = c.put_bytes-p.ensures in
    let b = c.put_bytes-p-2.ensures in (search rules, omega (arith, room, a.place, put_length a, b.place, put_length b))

pub returns : goal.returns
returns t c =
    rw (c.in-Some.ensures.cases.0, more_words c.in-Some.word.now c.in-Some.others.now (search rules), ← c.as_bytes.ensures.value)
    (put_then c.put_bytes-p.ensures (put_then c.put_bytes-p-2.ensures c.put_line.ensures))
