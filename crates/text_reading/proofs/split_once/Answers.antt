use Rattle.std.proofs.Common.{◌≡◌, ◌∙◌, sym, ap, ℕ, ◌+◌, ◌-◌, List, take, drop, length, Some, arith}
use Rattle.std.proofs.lemmas.List.{take_all, length-drop}
use Rattle.text_reading.proofs.TextLemmas.{split_on, split_found, split_not_found, split_sound, split_none}
use Rattle.text_reading.proofs.split_once.Goals as goal

tail_is : (text : List ℕ) (i : ℕ) → drop (i + 1) text ≡ take (length text - (i + 1)) (drop (i + 1) text)
tail_is text i = sym (take_all (length text - (i + 1)) (drop (i + 1) text) (omega (arith, length-drop (i + 1) text)))

pub returns-then-text-i : goal.returns-then-text-i
returns-then-text-i c =
    let value =
    split_found c.args.byte c.args.text.now c.loop-i.i c.loop-i-test.true c.if-text-i.true c.loop-i.invariant
    ∙ ap (λ (t : List ℕ). Some (take c.loop-i.i c.args.text.now, t)) (tail_is c.args.text.now c.loop-i.i) in
    record { parts = split_sound c.args.byte c.args.text.now _ value; none = tt; value = value }

pub loop-i-preserved : goal.loop-i-preserved
loop-i-preserved c =
    split_on c.args.byte c.args.text.now c.loop-i.i c.loop-i-test.true c.if-text-i.false c.loop-i.invariant

pub returns : goal.returns
returns c =
    let value = split_not_found c.args.byte c.args.text.now c.loop-i.i c.loop-i-test.false c.loop-i.invariant in
    record { parts = tt; none = split_none c.args.byte c.args.text.now value; value = value }
