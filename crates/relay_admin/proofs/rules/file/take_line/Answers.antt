use Rattle.std.proofs.Common.{◌∙◌, sym, refl}
use Rattle.relay_admin.specs.rules.Grammar.{entry_of}
use Rattle.relay_admin.specs.rules.Fault.{bad_line, too_many, same_name, same_listen}
use Rattle.relay_admin.specs.rules.Reading.{finds_name, finds_listen}
use Rattle.relay_admin.specs.rules.Reading.{skips}
use Rattle.relay_admin.proofs.rules.LineSteps.{skipped_is, not_skipped, is_full, has_room, has_name_is, lacks_name_is}
use Rattle.relay_admin.proofs.rules.LineSteps.{has_listen_is, lacks_listen_is, on_slice, added}
use Rattle.relay_admin.proofs.rules.file.take_line.Goals as goal

pub returns-then-is_skipped_line : goal.returns-then-is_skipped_line
returns-then-is_skipped_line c = skips (skipped_is _ (sym c.is_skipped_line.ensures ∙ c.if-is_skipped_line.true))

pub returns-in_default : goal.returns-in_default
returns-in_default c = (
  refl,
  bad_line (not_skipped _ (sym c.is_skipped_line.ensures ∙ c.if-is_skipped_line.false))
      c.in_default.ensures.none,
)

pub returns-then-is_full : goal.returns-then-is_full
returns-then-is_full c = (
  refl,
  too_many (entry_of c.in-Some.rule) c.in-Some.ensures.rule
      (is_full c.args.rules.now.items c.is_full.result c.is_full.ensures.value c.if-is_full.true),
)

pub returns-then-has_name : goal.returns-then-has_name
returns-then-has_name c = (
  refl,
  same_name (entry_of c.in-Some.rule) c.in-Some.ensures.rule
      (has_room c.args.rules.now.items c.is_full.result c.is_full.ensures.value c.if-is_full.false
      c.is_full.ensures.fits)
      (has_name_is _ _ (on_slice (finds_name (entry_of c.in-Some.rule).name) c.args.rules.now.items
      c.as_slice.result.now _ _ c.as_slice.ensures.value c.has_name.ensures c.if-has_name.true)),
)

pub returns-then-has_listen : goal.returns-then-has_listen
returns-then-has_listen c = (
  refl,
  same_listen (entry_of c.in-Some.rule) c.in-Some.ensures.rule
      (has_room c.args.rules.now.items c.is_full.result c.is_full.ensures.value c.if-is_full.false
      c.is_full.ensures.fits)
      (lacks_name_is _ _ (on_slice (finds_name (entry_of c.in-Some.rule).name) c.args.rules.now.items
      c.as_slice.result.now _ _ c.as_slice.ensures.value c.has_name.ensures c.if-has_name.false))
      (has_listen_is (entry_of c.in-Some.rule) _
      (on_slice (finds_listen (entry_of c.in-Some.rule).listen) c.args.rules.now.items c.as_slice-2.result.now _ _
      c.as_slice-2.ensures.value c.has_listen.ensures c.if-has_listen.true)),
)

pub returns : goal.returns
returns c =
    added c.args.rules.now.items _ _ c.in-Some.rule c.push.ensures.items c.in-Some.ensures.rule
    (has_room c.args.rules.now.items c.is_full.result c.is_full.ensures.value c.if-is_full.false c.is_full.ensures.fits)
    (lacks_name_is _ _ (on_slice (finds_name (entry_of c.in-Some.rule).name) c.args.rules.now.items
    c.as_slice.result.now _ _ c.as_slice.ensures.value c.has_name.ensures c.if-has_name.false))
    (lacks_listen_is (entry_of c.in-Some.rule) _
    (on_slice (finds_listen (entry_of c.in-Some.rule).listen) c.args.rules.now.items c.as_slice-2.result.now _ _
    c.as_slice-2.ensures.value c.has_listen.ensures c.if-has_listen.false))
