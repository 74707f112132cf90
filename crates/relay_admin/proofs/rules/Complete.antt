-- Each rule of the grammar is read from its text.
use Rattle.std.specs.Prelude.{◌≡◌, ◌^◌, ◌≤◌, ◌<◌, ◌∷◌, ◌++◌, ◌&&◌, ◌==◌, if◌then◌else◌}
use Rattle.relay_admin.proofs.Words.{◌∙◌, refl, ℕ, List, [], Bool, true, false}
use Rattle.relay_admin.proofs.Words.{Option, Some, None, arith, codes, is_ascii_digit}
use Rattle.relay_admin.proofs.Words.{all_ascii_digits, bytes_eq, decimal, nat_tests, Lacks, IfSome}
use Rattle.relay_admin.specs.rules.Addr.{Address, tcp, tcp6, unix, dot, colon, is_path, IsAddress, address_text}
use Rattle.relay_admin.specs.rules.Grammar.{Entry, IsEntry, IsIdle, time_text, is_name, space, line_text}
use Rattle.relay_admin.specs.declared.rules.rule.TheConstants.{MAX_IDLE_MS}
use Rattle.relay_admin.specs.TextReading.{◌>>=◌, split_at_first, number_within, time_within}
use Rattle.relay_admin.specs.rules.Reading.{tcp_at, path_at, address_at, rule_at}
use Rattle.relay_admin.proofs.TextLemmas.{bind_is, guard_true, split_complete, Lacks-append, Lacks-from_list_all}
use Rattle.relay_admin.proofs.TextLemmas.{Lacks-word}
use Rattle.relay_admin.proofs.NumberLemmas.{within_complete, decimal_digits, Lacks-decimal}
use Rattle.relay_admin.proofs.GrammarBytes.{digit_no_dot, digit_no_colon, digit_no_space, visible_no_space}
use Rattle.relay_admin.proofs.GrammarBytes.{path_visible, name_visible}

tcp_complete : (a b c d port : ℕ) → IsAddress (tcp a b c d port)
    → tcp_at (decimal a ++ dot ∷ (decimal b ++ dot ∷ (decimal c ++ dot ∷ (decimal d ++ colon ∷ decimal port)))) ≡ Some
    (tcp a b c d port)
unfolding tcp_at
tcp_complete a b c d port (small_a, small_b, small_c, small_d, some, small_port) =
    bind_is _ _ _ (split_complete dot (decimal a) _ (Lacks-decimal dot a digit_no_dot (omega arith)))
    ∙ bind_is _ _ _ (split_complete dot (decimal b) _ (Lacks-decimal dot b digit_no_dot (omega arith)))
    ∙ bind_is _ _ _ (split_complete dot (decimal c) _ (Lacks-decimal dot c digit_no_dot (omega arith)))
    ∙ bind_is _ _ _ (split_complete colon (decimal d) _ (Lacks-decimal colon d digit_no_colon (omega arith)))
    ∙ bind_is _ _ _ (within_complete 0 255 a (omega arith) (omega arith) (omega arith))
    ∙ bind_is _ _ _ (within_complete 0 255 b (omega arith) (omega arith) (omega arith))
    ∙ bind_is _ _ _ (within_complete 0 255 c (omega arith) (omega arith) (omega arith))
    ∙ bind_is _ _ _ (within_complete 0 255 d (omega arith) (omega arith) (omega arith))
    ∙ bind_is _ _ _ (within_complete 1 65535 port (omega arith) (omega arith) (omega arith))

path_complete : (path : List ℕ) → is_path path ≡ true → path_at path ≡ Some (unix path)
unfolding path_at
path_complete path e = guard_true (is_path path) (unix path) e

pub address_complete : (address : Address) → IsAddress address → address_at (address_text address) ≡ Some address
unfolding address_at
address_complete (tcp a b c d port) is =
    bind_is (split_at_first colon (address_text (tcp a b c d port))) _
    (codes "tcp", decimal a ++ dot ∷ (decimal b ++ dot ∷ (decimal c ++ dot ∷ (decimal d ++ colon ∷ decimal port))))
    (split_complete colon (codes "tcp") (decimal a
    ++ dot ∷ (decimal b ++ dot ∷ (decimal c ++ dot ∷ (decimal d ++ colon ∷ decimal port))))
    (Lacks-word colon (codes "tcp") refl))
    ∙ tcp_complete a b c d port is
address_complete (tcp6 ip scope port) is = absurd is
address_complete (unix path) is =
    bind_is (split_at_first colon (address_text (unix path))) _ (codes "unix", path)
    (split_complete colon (codes "unix") path (Lacks-word colon (codes "unix") refl))
    ∙ path_complete path is

-- a number isn't the word "never"
pub decimal_not_never : (n : ℕ) → n < 2 ^ 64 → bytes_eq (decimal n) (codes "never") ≡ false
decimal_not_never n wide = of_digits (decimal n) (decimal_digits n wide)
  where
    first_differs : (x : ℕ) (a b : Bool) → (is_ascii_digit x && a) ≡ true → ((x == 110) && b) ≡ false
    first_differs x a b e = grind (arith, nat_tests)

    of_digits : (digits : List ℕ) → all_ascii_digits digits ≡ true → bytes_eq digits (codes "never") ≡ false
    of_digits [] e = refl
    of_digits (x ∷ digits) e = first_differs x (all_ascii_digits digits) (bytes_eq digits (codes "ever")) e

pub else_is : {A : Type 0} (b : Bool) (x y : A) → b ≡ false → (if b then x else y) ≡ y
else_is b x y e = rw e refl

pub time_complete : (low high : ℕ) (time : Option ℕ) → high < 2 ^ 64
    → IfSome time (λ ms. (low ≤ ms) × (ms ≤ high)) → time_within low high (time_text time) ≡ Some time
unfolding time_within
time_complete low high None wide is = refl
time_complete low high (Some ms) wide is =
    let most = is.1 in
    let short : ms < 2 ^ 64 = omega arith in
    else_is (bytes_eq (decimal ms) (codes "never")) (Some None)
    (number_within low high (decimal ms) >>= λ n. Some (Some n)) (decimal_not_never ms short)
    ∙ bind_is (number_within low high (decimal ms)) _ ms (within_complete low high ms short is.0 is.1)

-- an idle time is a time from 1 on
time_of_idle : (idle : Option ℕ) → IsIdle idle → IfSome idle (λ ms. (1 ≤ ms) × (ms ≤ MAX_IDLE_MS))
time_of_idle None is = tt
time_of_idle (Some ms) is = let some = is.0 in (omega arith, is.1)

-- ---- Lines

address_lacks_space : (address : Address) → IsAddress address → Lacks space (address_text address)
address_lacks_space (tcp a b c d port) (small_a, small_b, small_c, small_d, some, small_port) =
    Lacks-append space (codes "tcp:") (decimal a
    ++ dot ∷ (decimal b ++ dot ∷ (decimal c ++ dot ∷ (decimal d ++ colon ∷ decimal port))))
    (Lacks-word space (codes "tcp:") refl)
    (Lacks-append space (decimal a) (dot ∷ (decimal b
    ++ dot ∷ (decimal c ++ dot ∷ (decimal d ++ colon ∷ decimal port))))
    (Lacks-decimal space a digit_no_space (omega arith)) (
      (λ e. absurd (omega arith)),
      (Lacks-append space (decimal b) (dot ∷ (decimal c ++ dot ∷ (decimal d ++ colon ∷ decimal port)))
          (Lacks-decimal space b digit_no_space (omega arith)) (
            (λ e. absurd (omega arith)),
            (Lacks-append space (decimal c) (dot ∷ (decimal d ++ colon ∷ decimal port))
                (Lacks-decimal space c digit_no_space (omega arith)) (
                  (λ e. absurd (omega arith)),
                  (Lacks-append space (decimal d) (colon ∷ decimal port)
                      (Lacks-decimal space d digit_no_space (omega arith)) (
                        (λ e. absurd (omega arith)),
                        (Lacks-decimal space port digit_no_space (omega arith)),
                      )),
                )),
          )),
    ))
address_lacks_space (tcp6 ip scope port) is = absurd is
address_lacks_space (unix path) is = Lacks-append space (codes "unix:") path (Lacks-word space (codes "unix:") refl)
    (Lacks-from_list_all space _ path visible_no_space (path_visible path is))

name_lacks_space : (name : List ℕ) → is_name name ≡ true → Lacks space name
name_lacks_space name is = Lacks-from_list_all space _ name visible_no_space (name_visible name is)

pub rule_complete : (entry : Entry) → IsEntry entry → rule_at (line_text entry) ≡ Some entry
unfolding rule_at
rule_complete entry is =
    bind_is (split_at_first space (line_text entry)) _ (
      codes "relay",
      entry.name ++ space ∷ (address_text entry.listen
          ++ space ∷ (address_text entry.target ++ space ∷ time_text entry.idle)),
    )
    (split_complete space (codes "relay") (entry.name
    ++ space ∷ (address_text entry.listen ++ space ∷ (address_text entry.target ++ space ∷ time_text entry.idle)))
    (Lacks-word space (codes "relay") refl))
    ∙ bind_is _ _ _ (split_complete space entry.name
    (address_text entry.listen ++ space ∷ (address_text entry.target ++ space ∷ time_text entry.idle))
    (name_lacks_space entry.name is.name))
    ∙ bind_is _ _ _ (split_complete space (address_text entry.listen)
    (address_text entry.target ++ space ∷ time_text entry.idle) (address_lacks_space entry.listen is.listen))
    ∙ bind_is _ _ _ (split_complete space (address_text entry.target) (time_text entry.idle)
    (address_lacks_space entry.target is.target))
    ∙ bind_is _ _ _ (address_complete entry.listen is.listen)
    ∙ bind_is _ _ _ (address_complete entry.target is.target)
    ∙ bind_is _ _ _ (time_complete 1 MAX_IDLE_MS entry.idle (omega arith) (time_of_idle entry.idle is.idle))
    ∙ guard_true (is_name entry.name) entry is.name
