-- What is read is an address of the configuration, and from its text it is read back.
use Rattle.std.proofs.Common.{◌≡◌, ◌≢◌, ◌∙◌, sym, ap, refl, subst, ℕ, ◌^◌, ◌<◌, List, [], ◌∷◌, ◌++◌, length, All, Bool, true, false, not, ◌||◌, Option, Some, None, append_assoc, append-nil, arith, inl, inr}
use Rattle.std.specs.Prelude.{◌==◌, ◌⊎◌, codes, if◌then◌else◌}
use Rattle.std.specs.Char.{is_ascii_digit}
use Rattle.std.specs.Fmt.{decimal}
use Rattle.std.specs.Str.{bytes_eq}
use Rattle.std.specs.Net.Text.{hex_groups_text, ipv4_text, ipv6_text, scope_text}
use Rattle.std.proofs.lemmas.Bool.{cases_eq}
use Rattle.std.proofs.lemmas.Bool.Decides.{nat_tests}
use Rattle.std.proofs.lemmas.List.Elements.{All-head, All-tail}
use Rattle.std.proofs.lemmas.Option.{none-some}
use Rattle.std.proofs.NetLemmas.Alphabet.{All-hex_groups_text, All-ipv4_text, IsDigitOrDot, IsHexOrColon}
use Rattle.std.proofs.NetLemmas.Texts.{IsColonHex-ipv6_text, IsDotted-ipv4_text}
use Rattle.stream_base.specs.Lines.{Lacks}
use Rattle.text_reading.specs.Reading.{number_within, split_at_first}
use Rattle.text_reading.proofs.NumberLemmas.{Lacks-decimal, within_complete, within_sound}
use Rattle.text_reading.proofs.TextLemmas.{Lacks-append, Lacks-from_list_all, Lacks-word, bind_is, bind_some, guard_some, guard_true, split_complete, split_lacks}
use Rattle.config_values.specs.Addr.{Address, IsAddress, address_at, address_text, by_percent, host_at, ipv6_at_port, is_path, name, of_host, path_at, port_at, scoped_at, tcp_at, unix, v4, v6}
use Rattle.config_values.specs.HostName.{is_host_name}
use Rattle.config_values.specs.Ip.{ipv4_at, ipv6_at, is_mapped}
use Rattle.config_values.specs.Laws.{HasWidths}
use Rattle.config_values.proofs.HostNames.{is_name_byte, name_byte_no_bracket, name_byte_no_colon, name_bytes}
use Rattle.config_values.proofs.IpLemmas.{ipv4_complete, ipv6_complete}

-- ---- Bytes that the texts lack

lacks_of : (P : ℕ → Type 0) (b : ℕ) (xs : List ℕ) → ((x : ℕ) → P x → x ≢ b) → All P xs → Lacks b xs
lacks_of P b [] other h = tt
lacks_of P b (x ∷ xs) other h = (other x (All-head P x xs h), lacks_of P b xs other (All-tail P x xs h))

dotted_no_colon : (x : ℕ) → IsDigitOrDot x → x ≢ 58
dotted_no_colon x (inl h) e = let high = h.1 in absurd (omega arith)
dotted_no_colon x (inr h) e = absurd (omega arith)

dotted_no_bracket : (x : ℕ) → IsDigitOrDot x → x ≢ 91
dotted_no_bracket x (inl h) e = let high = h.1 in absurd (omega arith)
dotted_no_bracket x (inr h) e = absurd (omega arith)

hex_no_bracket : (x : ℕ) → IsHexOrColon x → x ≢ 93
hex_no_bracket x (inl h) e = let high = h.1 in absurd (omega arith)
hex_no_bracket x (inr h) e = let low = h.0 in absurd (omega arith)

hex_no_percent : (x : ℕ) → IsHexOrColon x → x ≢ 37
hex_no_percent x (inl h) e = let low = h.0 in absurd (omega arith)
hex_no_percent x (inr h) e = let low = h.0 in absurd (omega arith)

digit_is_not : (b : ℕ) → 57 < b → (x : ℕ) → is_ascii_digit x ≡ true → x ≢ b
digit_is_not b h x e same = grind (arith, nat_tests)

port_lacks : (b port : ℕ) → 58 < b → port < 2 ^ 16 → Lacks b (58 ∷ decimal port)
port_lacks b port h small = ((λ e. absurd (omega arith)), Lacks-decimal b port (digit_is_not b (omega arith)) (omega arith))

-- ---- Ports and hosts

port_complete : (port : ℕ) → 0 < port → port < 2 ^ 16 → port_at (decimal port) ≡ Some port
unfolding port_at
port_complete port some small = within_complete 1 65535 port (omega arith) (omega arith) (omega arith)

host_complete : (host : List ℕ) (port : ℕ) (address : Address) → Lacks 58 host → 0 < port → port < 2 ^ 16
    → of_host host port (ipv4_at host) ≡ Some address → host_at (host ++ 58 ∷ decimal port) ≡ Some address
unfolding host_at
host_complete host port address lacks some small is =
    bind_is (split_at_first 58 (host ++ 58 ∷ decimal port)) _ (host, decimal port) (split_complete 58 host (decimal port) lacks)
    ∙ bind_is (port_at (decimal port)) _ port (port_complete port some small) ∙ is

no_bracket : (text : List ℕ) → Lacks 91 text → tcp_at text ≡ host_at text
unfolding tcp_at
no_bracket [] lacks = refl
no_bracket (x ∷ text) lacks = by_test (x == 91) (let other = lacks.0 in grind (arith, nat_tests))
  where
    by_test : (b : Bool) → b ≡ false → (if b then ipv6_at_port text else host_at (x ∷ text)) ≡ host_at (x ∷ text)
    by_test b e = rw e refl

bracket : (text : List ℕ) → tcp_at (91 ∷ text) ≡ ipv6_at_port text
unfolding tcp_at
bracket text = refl

tcp_first : (rest : List ℕ) → address_at (codes "tcp:" ++ rest) ≡ tcp_at rest
unfolding address_at
tcp_first rest =
    bind_is (split_at_first 58 (codes "tcp:" ++ rest)) _ (codes "tcp", rest)
    (split_complete 58 (codes "tcp") rest (Lacks-word 58 (codes "tcp") refl))

unix_first : (rest : List ℕ) → address_at (codes "unix:" ++ rest) ≡ path_at rest
unfolding address_at
unix_first rest =
    bind_is (split_at_first 58 (codes "unix:" ++ rest)) _ (codes "unix", rest)
    (split_complete 58 (codes "unix") rest (Lacks-word 58 (codes "unix") refl))

-- ---- IPv6

not_mapped_text : (ip : List ℕ) → is_mapped ip ≡ false → ipv6_text ip ≡ hex_groups_text ip
unfolding ipv6_text
not_mapped_text ip e = rw e refl

scope_lacks : (b scope : ℕ) → 57 < b → scope < 2 ^ 32 → Lacks b (scope_text scope)
scope_lacks b scope h small = by_test (scope == 0)
  where
    by_test : (none : Bool) → Lacks b (if none then [] else codes "%" ++ decimal scope)
    by_test true = tt
    by_test false = ((λ e. absurd (omega arith)), Lacks-decimal b scope (digit_is_not b h) (omega arith))

scoped_complete : (text ip : List ℕ) (scope : ℕ) → ipv6_at text ≡ Some ip → Lacks 37 text → scope < 2 ^ 32
    → scoped_at (text ++ scope_text scope) ≡ Some (ip, scope)
unfolding scoped_at
scoped_complete text ip scope is lacks small = by_case (cases_eq scope 0)
  where
    zero_scope : scope ≡ 0 → scope_text scope ≡ []
    zero_scope e = rw e refl

    some_scope : (b : Bool) → b ≡ false → (if b then [] else codes "%" ++ decimal scope) ≡ 37 ∷ decimal scope
    some_scope b e = rw e refl

    by_case : (scope ≡ 0) ⊎ (scope ≡ 0 → ⊥) → by_percent (text ++ scope_text scope) (split_at_first 37 (text ++ scope_text scope)) ≡ Some (ip, scope)
    by_case (inl none) =
        let plain : text ++ scope_text scope ≡ text = ap (λ (t : List ℕ). text ++ t) (zero_scope none) ∙ append-nil text in
        ap (λ (t : List ℕ). by_percent t (split_at_first 37 t)) plain
        ∙ ap (by_percent text) (split_lacks 37 text lacks)
        ∙ bind_is (ipv6_at text) _ ip is ∙ ap (λ (n : ℕ). Some (ip, n)) (sym none)
    by_case (inr some) =
        let shown : text ++ scope_text scope ≡ text ++ 37 ∷ decimal scope =
        ap (λ (t : List ℕ). text ++ t) (some_scope (scope == 0) (grind (arith, nat_tests))) in
        ap (λ (t : List ℕ). by_percent t (split_at_first 37 t)) shown
        ∙ ap (by_percent (text ++ 37 ∷ decimal scope)) (split_complete 37 text (decimal scope) lacks)
        ∙ bind_is (ipv6_at text) _ ip is
        ∙ bind_is (number_within 1 0xffffffff (decimal scope)) _ scope
        (within_complete 1 0xffffffff scope (omega arith) (omega arith) (omega arith))

v6_complete : (ip : List ℕ) (scope port : ℕ) → IsAddress (v6 ip scope port)
    → ipv6_at_port (ipv6_text ip ++ (scope_text scope ++ (codes "]:" ++ decimal port))) ≡ Some (v6 ip scope port)
unfolding ipv6_at_port
v6_complete ip scope port is =
    let plain : ipv6_text ip ≡ hex_groups_text ip = not_mapped_text ip is.2 in
    let bytes = All-hex_groups_text ip is.1 in
    let text : List ℕ = ipv6_text ip in
    let lacks_end : Lacks 93 text = subst (Lacks 93) (sym plain) (lacks_of IsHexOrColon 93 (hex_groups_text ip) hex_no_bracket bytes) in
    let lacks_mark : Lacks 37 text = subst (Lacks 37) (sym plain) (lacks_of IsHexOrColon 37 (hex_groups_text ip) hex_no_percent bytes) in
    let shown : text ++ (scope_text scope ++ (codes "]:" ++ decimal port)) ≡ (text ++ scope_text scope) ++ 93 ∷ (58 ∷ decimal port) =
    sym (append_assoc text (scope_text scope) (codes "]:" ++ decimal port)) in
    let scoped = scoped_complete text ip scope (ipv6_complete text ip (IsColonHex-ipv6_text ip is.0 is.1)) lacks_mark is.3 in
    ap ipv6_at_port shown
    ∙ bind_is (split_at_first 93 ((text ++ scope_text scope) ++ 93 ∷ (58 ∷ decimal port))) _ (text ++ scope_text scope, 58 ∷ decimal port)
    (split_complete 93 (text ++ scope_text scope) (58 ∷ decimal port)
    (Lacks-append 93 text (scope_text scope) lacks_end (scope_lacks 93 scope (omega arith) is.3)))
    ∙ bind_is (split_at_first 58 (58 ∷ decimal port)) _ ([], decimal port) (split_complete 58 [] (decimal port) tt)
    ∙ bind_is (port_at (decimal port)) _ port (port_complete port is.4 is.5)
    ∙ bind_is (scoped_at (text ++ scope_text scope)) _ (ip, scope) scoped
    ∙ last is.2
  where
    last : is_mapped ip ≡ false → (if is_mapped ip then None else Some (v6 ip scope port)) ≡ Some (v6 ip scope port)
    last e = rw e refl

-- ---- Read back

if_true : {A : Type 0} (b : Bool) (x y : A) → b ≡ true → (if b then x else y) ≡ x
if_true b x y e = rw e refl

pub address_complete : (address : Address) → IsAddress address → address_at (address_text address) ≡ Some address
unfolding path_at
address_complete (v4 ip port) is =
    let text : List ℕ = ipv4_text ip in
    let bytes = All-ipv4_text ip is.1 in
    let dotted = ipv4_complete text ip (IsDotted-ipv4_text ip is.0 is.1) in
    tcp_first (text ++ 58 ∷ decimal port)
    ∙ no_bracket (text ++ 58 ∷ decimal port) (Lacks-append 91 text (58 ∷ decimal port)
    (lacks_of IsDigitOrDot 91 text dotted_no_bracket bytes) (port_lacks 91 port (omega arith) is.3))
    ∙ host_complete text port (v4 ip port) (lacks_of IsDigitOrDot 58 text dotted_no_colon bytes) is.2 is.3
    (ap (of_host text port) dotted)
address_complete (v6 ip scope port) is =
    tcp_first (91 ∷ (ipv6_text ip ++ (scope_text scope ++ (codes "]:" ++ decimal port))))
    ∙ bracket (ipv6_text ip ++ (scope_text scope ++ (codes "]:" ++ decimal port))) ∙ v6_complete ip scope port is
address_complete (unix path) is = unix_first path ∙ guard_true (is_path path) (unix path) is
address_complete (name host port) is =
    let bytes = name_bytes host is.0 in
    tcp_first (host ++ 58 ∷ decimal port)
    ∙ no_bracket (host ++ 58 ∷ decimal port) (Lacks-append 91 host (58 ∷ decimal port)
    (Lacks-from_list_all 91 is_name_byte host name_byte_no_bracket bytes) (port_lacks 91 port (omega arith) is.3))
    ∙ host_complete host port (name host port) (Lacks-from_list_all 58 is_name_byte host name_byte_no_colon bytes) is.2 is.3
    (ap (of_host host port) is.1 ∙ if_true (is_host_name host) (Some (name host port)) None is.0)

-- ---- What is read

port_is : (text : List ℕ) (port : ℕ) → port_at text ≡ Some port → (0 < port) × (port < 2 ^ 16)
unfolding port_at
port_is text port e = let is = within_sound 1 65535 text port e in let low = is.1 in let high = is.2 in (omega arith, omega arith)

host_is : (text : List ℕ) (address : Address) → HasWidths address → host_at text ≡ Some address → IsAddress address
unfolding host_at
host_is text address widths e =
    let parts = bind_some (split_at_first 58 text) _ address e in
    let port = bind_some (port_at parts.0.1) _ address parts.2 in
    let range = port_is parts.0.1 port.0 port.1 in
    by_ip parts.0.0 port.0 range.0 range.1 (ipv4_at parts.0.0) refl port.2
  where
    by_ip : (host : List ℕ) (port : ℕ) → 0 < port → port < 2 ^ 16 → (o : Option (List ℕ)) → ipv4_at host ≡ o
        → of_host host port o ≡ Some address → IsAddress address
    by_ip host port some small (Some ip) is h =
        let same : v4 ip port ≡ address = cc in
        let w = subst HasWidths (sym same) widths in
        subst IsAddress same (w.0, w.1, some, small)
    by_ip host port some small None is h =
        let named = guard_some (is_host_name host) (name host port) address h in
        subst IsAddress named.1 (named.0, is, some, small)

scope_is : (text ip : List ℕ) (scope : ℕ) → scoped_at text ≡ Some (ip, scope) → scope < 2 ^ 32
unfolding scoped_at
scope_is text ip scope e = by_parts (split_at_first 37 text) e
  where
    by_parts : (o : Option (List ℕ × List ℕ)) → by_percent text o ≡ Some (ip, scope) → scope < 2 ^ 32
    by_parts (Some parts) h =
        let address = bind_some (ipv6_at parts.0) _ (ip, scope) h in
        let number = bind_some (number_within 1 0xffffffff parts.1) _ (ip, scope) address.2 in
        let pair : (address.0, number.0) ≡ (ip, scope) = cc in
        let same : number.0 ≡ scope = ap (λ (p : List ℕ × ℕ). p.1) pair in
        let high = (within_sound 1 0xffffffff parts.1 number.0 number.1).2 in
        omega arith
    by_parts None h =
        let address = bind_some (ipv6_at text) _ (ip, scope) h in
        let pair : (address.0, 0) ≡ (ip, scope) = cc in
        let same : 0 ≡ scope = ap (λ (p : List ℕ × ℕ). p.1) pair in
        omega arith

v6_is : (text : List ℕ) (address : Address) → HasWidths address → ipv6_at_port text ≡ Some address → IsAddress address
unfolding ipv6_at_port
v6_is text address widths e =
    let parts = bind_some (split_at_first 93 text) _ address e in
    let behind = bind_some (split_at_first 58 parts.0.1) _ address parts.2 in
    let port = bind_some (port_at behind.0.1) _ address behind.2 in
    let scoped = bind_some (scoped_at parts.0.0) _ address port.2 in
    let range = port_is behind.0.1 port.0 port.1 in
    by_tests (not (length behind.0.0 == 0)) scoped.0 port.0 (scope_is parts.0.0 scoped.0.0 scoped.0.1 scoped.1)
    range.0 range.1 (is_mapped scoped.0.0) refl scoped.2
  where
    by_tests : (b : Bool) (scoped : List ℕ × ℕ) (port : ℕ) → scoped.1 < 2 ^ 32 → 0 < port → port < 2 ^ 16
        → (mapped : Bool) → is_mapped scoped.0 ≡ mapped
        → (if b || mapped then None else Some (v6 scoped.0 scoped.1 port)) ≡ Some address → IsAddress address
    by_tests true scoped port high some small mapped is h = absurd (none-some address h)
    by_tests false scoped port high some small true is h = absurd (none-some address h)
    by_tests false scoped port high some small false is h =
        let same : v6 scoped.0 scoped.1 port ≡ address = cc in
        let w = subst HasWidths (sym same) widths in
        subst IsAddress same (w.0, w.1, is, high, some, small)

tcp_is : (text : List ℕ) (address : Address) → HasWidths address → tcp_at text ≡ Some address → IsAddress address
unfolding tcp_at
tcp_is [] address widths e = host_is [] address widths e
tcp_is (x ∷ text) address widths e = by_test (x == 91) e
  where
    by_test : (b : Bool) → (if b then ipv6_at_port text else host_at (x ∷ text)) ≡ Some address → IsAddress address
    by_test true h = v6_is text address widths h
    by_test false h = host_is (x ∷ text) address widths h

path_is : (text : List ℕ) (address : Address) → path_at text ≡ Some address → IsAddress address
unfolding path_at
path_is text address e = let is = guard_some (is_path text) (unix text) address e in subst IsAddress is.1 is.0

pub address_is : (text : List ℕ) (address : Address) → HasWidths address → address_at text ≡ Some address → IsAddress address
unfolding address_at
address_is text address widths e =
    let kind = bind_some (split_at_first 58 text) _ address e in
    by_word kind.0.1 (bytes_eq kind.0.0 (codes "tcp")) (bytes_eq kind.0.0 (codes "unix")) kind.2
  where
    by_word : (rest : List ℕ) (tcp unix : Bool) → (if tcp then tcp_at rest else if unix then path_at rest else None) ≡ Some address
        → IsAddress address
    by_word rest true _ h = tcp_is rest address widths h
    by_word rest false true h = path_is rest address h
    by_word rest false false h = absurd (none-some address h)
