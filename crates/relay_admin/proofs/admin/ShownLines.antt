-- What is shown is one line.
use Rattle.std.specs.Prelude.{◌≡◌, ◌≢◌, ◌<◌, ◌^◌, ◌==◌, ◌∷◌, ◌++◌, codes, if◌then◌else◌}
use Rattle.relay_admin.proofs.Words.{◌∙◌, sym, ap, refl, ℕ, List, [], Bool, true, false, Option, Some, None}
use Rattle.relay_admin.proofs.Words.{append_assoc, arith, nat_tests, decimal, is_ascii_digit, Lacks, Address, tcp, tcp6, unix}
use Rattle.std.specs.List.{list_all}
use Rattle.std.specs.Net.Text.{ipv6_text, scope_text}
use Rattle.stream_base.proofs.LineLemmas.{lacks-append}
use Rattle.relay_admin.specs.rules.Addr.{address_text, is_path, is_visible}
use Rattle.relay_admin.specs.declared.admin.shown.ShownSide.{ShownSide}
use Rattle.relay_admin.specs.declared.admin.shown.ShownSide.TheVariants as sides
use Rattle.relay_admin.specs.declared.admin.shown_target.LastFailure.{LastFailure}
use Rattle.relay_admin.specs.declared.admin.shown_target.LastFailure.TheVariants as failure
use Rattle.relay_admin.specs.declared.admin.shown_target.TargetState.{TargetState}
use Rattle.relay_admin.specs.declared.admin.shown_target.TargetState.TheVariants as state
use Rattle.relay_admin.specs.declared.admin.target_order.Order.{Order}
use Rattle.relay_admin.specs.declared.admin.target_order.Order.TheVariants as order
use Rattle.relay_admin.specs.admin.ShownTarget.{AreTargetFacts, HasGoodPath, TargetFacts, checks_text, checks_word}
use Rattle.relay_admin.specs.admin.ShownTarget.{failure_word, load_text, state_text, state_word, which_text}
use Rattle.relay_admin.specs.admin.TargetOrder.{order_word}
use Rattle.relay_admin.specs.admin.Shown.{Particulars, AreParticulars, FitsPeer, peer_text, unnamed, side_word}
use Rattle.relay_admin.specs.admin.Shown.{who_text, figures_text}
use Rattle.relay_admin.specs.Laws.{OneLineAShow, OneLineATarget}
use Rattle.relay_admin.proofs.TextLemmas.{both, word_lacks, Lacks-word}
use Rattle.relay_admin.proofs.NumberLemmas.{Lacks-decimal}
use Rattle.relay_admin.proofs.GrammarBytes.{ipv6_visible, name_visible, path_visible}

digit_no_feed : (x : ℕ) → is_ascii_digit x ≡ true → x ≢ 10
digit_no_feed x e same = grind (arith, nat_tests)

visible_no_feed : (x : ℕ) → is_visible x ≡ true → x ≢ 10
visible_no_feed x e same = grind (arith, nat_tests)

visible_lacks : (xs : List ℕ) → list_all is_visible xs ≡ true → Lacks 10 xs
visible_lacks [] e = tt
visible_lacks (x ∷ xs) e = let p = both (is_visible x) (list_all is_visible xs) e in
    (visible_no_feed x p.0, visible_lacks xs p.1)

-- a word without a line feed before a text without one
behind : (word text : List ℕ) → word_lacks 10 word ≡ true → Lacks 10 text → Lacks 10 (word ++ text)
behind word text e lacks = lacks-append 10 word text (Lacks-word 10 word e) lacks

number : (n : ℕ) → n < 2 ^ 64 → Lacks 10 (decimal n)
number n wide = Lacks-decimal 10 n digit_no_feed wide

-- a byte past the line feed and a text
byte_then : (byte : ℕ) (text : List ℕ) → 10 < byte → Lacks 10 text → Lacks 10 (byte ∷ text)
byte_then byte text past lacks = (differs, lacks)
  where
    differs : byte ≢ 10
    differs e = absurd (omega arith)

-- a number, such a byte and a text
number_then : (n byte : ℕ) (text : List ℕ) → n < 2 ^ 64 → 10 < byte → Lacks 10 text → Lacks 10 (decimal n ++ byte ∷ text)
number_then n byte text wide past lacks =
    lacks-append 10 (decimal n) (byte ∷ text) (number n wide) (byte_then byte text past lacks)

scope_lacks : (scope : ℕ) → scope < 2 ^ 32 → Lacks 10 (scope_text scope)
scope_lacks scope small = by_test (scope == 0)
  where
    by_test : (none : Bool) → Lacks 10 (if none then [] else codes "%" ++ decimal scope)
    by_test true = tt
    by_test false = behind (codes "%") (decimal scope) refl (number scope (omega arith))

peer_lacks : (peer : Option Address) → FitsPeer peer → Lacks 10 (peer_text peer)
peer_lacks None fits = Lacks-word 10 unnamed refl
peer_lacks (Some (tcp a b c d port)) fits =
    let wide_a : a < 2 ^ 64 = let h = fits.0 in omega arith in
    let wide_b : b < 2 ^ 64 = let h = fits.1 in omega arith in
    let wide_c : c < 2 ^ 64 = let h = fits.2 in omega arith in
    let wide_d : d < 2 ^ 64 = let h = fits.3 in omega arith in
    let wide_port : port < 2 ^ 64 = let h = fits.4 in omega arith in
    behind (codes "tcp") (58 ∷ (decimal a ++ 46 ∷ (decimal b ++ 46 ∷ (decimal c ++ 46 ∷ (decimal d ++ 58 ∷ decimal port)))))
    refl (byte_then 58 _ (omega arith)
    (number_then a 46 _ wide_a (omega arith) (number_then b 46 _ wide_b (omega arith)
    (number_then c 46 _ wide_c (omega arith) (number_then d 58 _ wide_d (omega arith) (number port wide_port))))))
peer_lacks (Some (tcp6 ip scope port)) fits =
    let wide_port : port < 2 ^ 64 = let h = fits.2 in omega arith in
    behind (codes "tcp:[") (ipv6_text ip ++ (scope_text scope ++ (codes "]:" ++ decimal port))) refl
    (lacks-append 10 (ipv6_text ip) _ (visible_lacks (ipv6_text ip) (ipv6_visible ip fits.0))
    (lacks-append 10 (scope_text scope) _ (scope_lacks scope fits.1)
    (behind (codes "]:") (decimal port) refl (number port wide_port))))
peer_lacks (Some (unix path)) fits = by_test (is_path path) refl
  where
    by_test : (b : Bool) → is_path path ≡ b → Lacks 10 (if b then address_text (unix path) else unnamed)
    by_test true e =
        behind (codes "unix") (58 ∷ path) refl (byte_then 58 path (omega arith)
        (visible_lacks path (path_visible path e)))
    by_test false e = Lacks-word 10 unnamed refl

side_lacks : (side : ShownSide) → Lacks 10 (side_word side)
side_lacks sides.Client = Lacks-word 10 (codes "client") refl
side_lacks sides.Target = Lacks-word 10 (codes "target") refl
side_lacks sides.Listener = Lacks-word 10 (codes "listener") refl

who_lacks : (p : Particulars) → AreParticulars p → Lacks 10 (who_text p)
unfolding who_text
who_lacks p are =
    lacks-append 10 (codes "show " ++ decimal p.id) _ (behind (codes "show ") (decimal p.id) refl (number p.id are.id))
    (lacks-append 10 (codes " rule " ++ p.rule) _
    (behind (codes " rule ") p.rule refl (visible_lacks p.rule (name_visible p.rule are.rule)))
    (lacks-append 10 (codes " side " ++ side_word p.side) _
    (behind (codes " side ") (side_word p.side) refl (side_lacks p.side))
    (behind (codes " peer ") (peer_text p.peer) refl (peer_lacks p.peer are.peer))))

figures_lacks : (p : Particulars) → AreParticulars p → Lacks 10 (figures_text p)
unfolding figures_text
figures_lacks p are =
    lacks-append 10 (codes " up " ++ decimal p.up) _ (behind (codes " up ") (decimal p.up) refl (number p.up are.up))
    (lacks-append 10 (codes " down " ++ decimal p.down) _
    (behind (codes " down ") (decimal p.down) refl (number p.down are.down))
    (lacks-append 10 (codes " age " ++ decimal p.age) _
    (behind (codes " age ") (decimal p.age) refl (number p.age are.age))
    (behind (codes " quiet ") (decimal p.quiet) refl (number p.quiet are.quiet))))

pub one_line : OneLineAShow
one_line p are = (
  who_text p ++ figures_text p,
  lacks-append 10 (who_text p) (figures_text p) (who_lacks p are) (figures_lacks p are),
  sym (append_assoc (who_text p) (figures_text p) (10 ∷ [])),
)

-- ---- What is shown of a target

address_lacks : (at : Address) → FitsPeer (Some at) → HasGoodPath at → Lacks 10 (address_text at)
address_lacks (tcp a b c d port) fits good = peer_lacks (Some (tcp a b c d port)) fits
address_lacks (tcp6 ip scope port) fits good = peer_lacks (Some (tcp6 ip scope port)) fits
address_lacks (unix path) fits good =
    behind (codes "unix") (58 ∷ path) refl (byte_then 58 path (omega arith) (visible_lacks path (path_visible path good)))

state_lacks : (s : TargetState) → Lacks 10 (state_word s)
state_lacks state.Up = Lacks-word 10 (codes "up") refl
state_lacks state.Drained = Lacks-word 10 (codes "drained") refl
state_lacks state.Down = Lacks-word 10 (codes "down") refl

order_lacks : (o : Order) → Lacks 10 (order_word o)
order_lacks order.Auto = Lacks-word 10 (codes "auto") refl
order_lacks order.Up = Lacks-word 10 (codes "up") refl
order_lacks order.Drain = Lacks-word 10 (codes "drain") refl
order_lacks order.Down = Lacks-word 10 (codes "down") refl

failure_lacks : (f : LastFailure) → Lacks 10 (failure_word f)
failure_lacks failure.Never = Lacks-word 10 (codes "none") refl
failure_lacks failure.Refused = Lacks-word 10 (codes "refused") refl
failure_lacks failure.Unreachable = Lacks-word 10 (codes "unreachable") refl
failure_lacks failure.Timeout = Lacks-word 10 (codes "timeout") refl

checked_lacks : (is_checked : Bool) → Lacks 10 (checks_word is_checked)
checked_lacks true = Lacks-word 10 (codes "on") refl
checked_lacks false = Lacks-word 10 (codes "off") refl

which_lacks : (t : TargetFacts) → AreTargetFacts t → Lacks 10 (which_text t)
unfolding which_text
which_lacks t are =
    lacks-append 10 (codes "target " ++ decimal t.place) _ (behind (codes "target ") (decimal t.place) refl (number t.place are.place))
    (lacks-append 10 (codes " rule " ++ t.rule) _
    (behind (codes " rule ") t.rule refl (visible_lacks t.rule (name_visible t.rule are.rule)))
    (behind (codes " at ") (address_text t.at) refl (address_lacks t.at are.at are.path)))

states_lack : (t : TargetFacts) → AreTargetFacts t → Lacks 10 (state_text t)
unfolding state_text
states_lack t are =
    lacks-append 10 (codes " state " ++ state_word t.state) _
    (behind (codes " state ") (state_word t.state) refl (state_lacks t.state))
    (lacks-append 10 (codes " since " ++ decimal t.since) _
    (behind (codes " since ") (decimal t.since) refl (number t.since are.since))
    (behind (codes " set ") (order_word t.set) refl (order_lacks t.set)))

load_lacks : (t : TargetFacts) → AreTargetFacts t → Lacks 10 (load_text t)
unfolding load_text
load_lacks t are =
    lacks-append 10 (codes " connections " ++ decimal t.connections) _
    (behind (codes " connections ") (decimal t.connections) refl (number t.connections are.connections))
    (lacks-append 10 (codes " connects " ++ decimal t.connects) _
    (behind (codes " connects ") (decimal t.connects) refl (number t.connects are.connects))
    (behind (codes " failures ") (decimal t.failures) refl (number t.failures are.failures)))

checks_lack : (t : TargetFacts) → AreTargetFacts t → Lacks 10 (checks_text t)
unfolding checks_text
checks_lack t are =
    lacks-append 10 (codes " checks " ++ checks_word t.is_checked) _
    (behind (codes " checks ") (checks_word t.is_checked) refl (checked_lacks t.is_checked))
    (lacks-append 10 (codes " passed " ++ decimal t.passed) _
    (behind (codes " passed ") (decimal t.passed) refl (number t.passed are.passed))
    (lacks-append 10 (codes " failed " ++ decimal t.failed) _
    (behind (codes " failed ") (decimal t.failed) refl (number t.failed are.failed))
    (behind (codes " last ") (failure_word t.last_failure) refl (failure_lacks t.last_failure))))

pub one_target_line : OneLineATarget
one_target_line t are =
    let rest : List ℕ = load_text t ++ checks_text t in (
      which_text t ++ (state_text t ++ rest),
      lacks-append 10 (which_text t) (state_text t ++ rest) (which_lacks t are)
          (lacks-append 10 (state_text t) rest (states_lack t are)
          (lacks-append 10 (load_text t) (checks_text t) (load_lacks t are) (checks_lack t are))),
      sym (append_assoc (which_text t) (state_text t ++ rest) (10 ∷ [])
          ∙ ap (λ l. which_text t ++ l) (append_assoc (state_text t) rest (10 ∷ []))
          ∙ ap (λ l. which_text t ++ (state_text t ++ l)) (append_assoc (load_text t) (checks_text t) (10 ∷ []))),
    )
