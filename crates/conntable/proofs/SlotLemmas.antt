-- A slab and an index that hold a list of entries.
use Rattle.std.proofs.Common.{◌≡◌, ◌≢◌, ◌∙◌, sym, ap, subst, refl, ℕ, suc, ◌<◌, inl, inr, List, [], ◌∷◌, ◌++◌}
use Rattle.std.proofs.Common.{length, get_or, take, drop, take-append-drop, drop-cons, map, find, All, AllPairs}
use Rattle.std.proofs.Common.{Contains, Option, Some, None, option_map, Bool, true, false, cond, ◌==◌, nat_cmp, Greater}
use Rattle.std.proofs.Common.{true≢false, arith, is_eq}
use Rattle.std.specs.List.{cons_option}
use Rattle.std.specs.List.{remove}
use Rattle.std.specs.Map.{lookup, remove_entry, keys_of}
use Rattle.std.specs.BTreeMap.{insert_entry, is_at}
use Rattle.std.specs.Ordering.{match_ordering}
use Rattle.std.proofs.lemmas.List.Elements.{All-head, All-tail, All-push, All-contains, All-weaker, Contains-push}
use Rattle.std.proofs.lemmas.List.Elements.{Contains-push_cases, Contains-append_left, Contains-append_right}
use Rattle.std.proofs.lemmas.List.Elements.{Contains-append_cases, All-nil, All-cons}
use Rattle.std.proofs.lemmas.List.{length-map}
use Rattle.std.proofs.lemmas.Bool.Decides.{eqb_tells, nat_tests}
use Rattle.slab.specs.Slab.{Slab, get, Updates}
use Rattle.conntable.specs.declared.table.Entry.{Entry}
use Rattle.conntable.specs.Token.{token_of, key_of, id_of}
use Rattle.conntable.specs.ConnTable.{ids_of}
use Rattle.conntable.proofs.ConnTableLemmas.{All-remove, removed_has_no, ids_differ}
use Rattle.conntable.specs.Slots.{line_of, entries_at, Holds}

is_same : (a b : ℕ) → (a == b) ≡ true → a ≡ b
is_same a b h = grind (arith, nat_tests)

same_is : (a b : ℕ) → a ≡ b → (a == b) ≡ true
same_is a b h = grind (arith, nat_tests)

pub not_same : (a b : ℕ) → (a == b) ≡ false → a ≢ b
not_same a b h = λ same. grind (arith, nat_tests)

at_is : (a b : ℕ) → is_eq (nat_cmp a b) ≡ true → b ≡ a
at_is a b h = grind (arith)

-- the place of each id, where one id more has this place
abbrev with_place : (ℕ → ℕ) → ℕ → ℕ → ℕ → ℕ
with_place place id at n = cond (n == id) at (place n)

with_place-own : (place : ℕ → ℕ) (id at : ℕ) → with_place place id at id ≡ at
with_place-own place id at = ap (λ b. cond b at (place id)) (same_is id id refl)

with_place-other : (place : ℕ → ℕ) (id at n : ℕ) → n < id → with_place place id at n ≡ place n
with_place-other place id at n below = ap (λ b. cond b at (place n)) (other n id below)
  where
    other : (a b : ℕ) → a < b → (a == b) ≡ false
    other a b h = grind (arith, nat_tests)

id_of_made : (n id : ℕ) → n ≡ token_of (key_of n) id → id_of n ≡ id
id_of_made n id made = omega (arith, made)

module _ {T : Type 0} where
  -- the index's places that hold entries give them back
  pub entries_at-kept : (slots : Slab (Entry T)) (place : ℕ → ℕ) (es : List (Entry T)) →
      All (λ e. get slots (place e.id) ≡ Some e) es → entries_at slots (map (line_of place) es) ≡ es
  entries_at-kept slots place [] kept = refl
  entries_at-kept slots place (e ∷ es) kept =
      ap (λ o. cons_option o (entries_at slots (map (line_of place) es)))
      (All-head (λ e. get slots (place e.id) ≡ Some e) e es kept)
      ∙ ap (λ r. e ∷ r) (entries_at-kept slots place es (All-tail (λ e. get slots (place e.id) ≡ Some e) e es kept))

  pub entries_at-Holds : (slots : Slab (Entry T)) (index : List (ℕ × ℕ)) (es : List (Entry T)) → Holds slots index es →
      entries_at slots index ≡ es
  entries_at-Holds slots index es h = ap (entries_at slots) h.indexed ∙ entries_at-kept slots h.place es h.kept

  pub length-Holds : (slots : Slab (Entry T)) (index : List (ℕ × ℕ)) (es : List (Entry T)) → Holds slots index es →
      length index ≡ length es
  length-Holds slots index es h = ap length h.indexed ∙ length-map es (line_of h.place)

  -- the place that the index has for an id
  pub lookup-line : (id : ℕ) (place : ℕ → ℕ) (es : List (Entry T)) →
      lookup (is_at (nat_cmp id)) (map (line_of place) es) ≡ option_map (λ e. place e.id) (find (λ e. e.id == id) es)
  lookup-line id place [] = refl
  lookup-line id place (e ∷ es) =
      ap (λ b. cond b (Some (place e.id)) (lookup (is_at (nat_cmp id)) (map (line_of place) es))) (at_is id e.id)
      ∙ by_case (e.id == id) (lookup-line id place es)
    where
      at_is : (a b : ℕ) → is_eq (nat_cmp a b) ≡ (b == a)
      at_is a b = grind (arith)

      by_case : (b : Bool) → lookup (is_at (nat_cmp id)) (map (line_of place) es) ≡
          option_map (λ e. place e.id) (find (λ e. e.id == id) es) →
          cond b (Some (place e.id)) (lookup (is_at (nat_cmp id)) (map (line_of place) es)) ≡
          option_map (λ e. place e.id) (cond b (Some e) (find (λ e. e.id == id) es))
      by_case true rest = refl
      by_case false rest = rest

  -- what is found passes the test and is in the list
  pub found_in : (test : Entry T → Bool) (es : List (Entry T)) (e : Entry T) → find test es ≡ Some e →
      (test e ≡ true) × Contains es e
  found_in test [] e is = absurd (let no : None ≡ Some e = is in cc)
  found_in test (f ∷ es) e is = by_case (found_in test es e) (test f) refl is
    where
      by_case : (find test es ≡ Some e → (test e ≡ true) × Contains es e) → (b : Bool) → test f ≡ b →
          cond b (Some f) (find test es) ≡ Some e → (test e ≡ true) × Contains (f ∷ es) e
      by_case more true was is =
          let same : f ≡ e = cc is in (
            subst (λ g. test g ≡ true) same was,
            subst (Contains (f ∷ es)) same
                (Contains-append_left (f ∷ []) es f (Contains-push [] f)),
          )
      by_case more false was is = let rest = more is in (rest.0, Contains-append_right (f ∷ []) es e rest.1)

  -- where nothing is found, nothing passes
  pub none_passes : (test : Entry T → Bool) (es : List (Entry T)) → find test es ≡ None → All (λ f. test f ≡ false) es
  none_passes test [] none = All-nil (λ f. test f ≡ false)
  none_passes test (f ∷ es) none = by_case (none_passes test es) (test f) refl none
    where
      by_case : (find test es ≡ None → All (λ g. test g ≡ false) es) → (b : Bool) → test f ≡ b →
          cond b (Some f) (find test es) ≡ None → All (λ g. test g ≡ false) (f ∷ es)
      by_case more true was none = absurd (let no : Some f ≡ None = none in cc)
      by_case more false was none = All-cons (λ g. test g ≡ false) f es was (more none)

  -- a list with an entry that passes has one that is found
  pub not_none : (test : Entry T → Bool) (es : List (Entry T)) (e : Entry T) → Contains es e → test e ≡ true →
      find test es ≡ None → ⊥
  not_none test es e there passes none = absurd (let h =
      All-contains (λ f. test f ≡ false) es e (none_passes test es none) there in true≢false (sym passes ∙ h))

  -- an entry at its place is what the slab has there
  pub kept_at : (slots : Slab (Entry T)) (index : List (ℕ × ℕ)) (es : List (Entry T)) (h : Holds slots index es)
      (e : Entry T) → Contains es e → get slots (h.place e.id) ≡ Some e
  kept_at slots index es h e there = All-contains (λ f. get slots (h.place f.id) ≡ Some f) es e h.kept there

  -- two entries with one id are one
  pub same_entry : (slots : Slab (Entry T)) (index : List (ℕ × ℕ)) (es : List (Entry T)) (e f : Entry T) →
      Holds slots index es → Contains es e → Contains es f → e.id ≡ f.id → e ≡ f
  same_entry slots index es e f h e_there f_there same =
      let is : Some e ≡ Some f = sym (kept_at slots index es h e e_there) ∙ ap (λ n. get slots (h.place n)) same ∙
      kept_at slots index es h f f_there in cc is

  -- where the index leads to for an id is the entry with this id
  pub by_id_at : (slots : Slab (Entry T)) (index : List (ℕ × ℕ)) (es : List (Entry T)) (id at : ℕ) →
      Holds slots index es → lookup (is_at (nat_cmp id)) index ≡ Some at →
      (e : Entry T) × (find (λ f. f.id == id) es ≡ Some e) × (get slots at ≡ Some e)
  by_id_at slots index es id at h line = by_case (find (λ f. f.id == id) es) refl
    where
      by_case : (o : Option (Entry T)) → find (λ f. f.id == id) es ≡ o →
          (e : Entry T) × (find (λ f. f.id == id) es ≡ Some e) × (get slots at ≡ Some e)
      by_case None is = absurd (let no : None ≡ Some at = sym (ap (option_map (λ f. h.place f.id)) is) ∙
          sym (lookup-line id h.place es) ∙ sym (ap (lookup (is_at (nat_cmp id))) h.indexed) ∙ line in cc)
      by_case (Some f) is =
          let places : Some (h.place f.id) ≡ Some at = sym (ap (option_map (λ f. h.place f.id)) is) ∙
          sym (lookup-line id h.place es) ∙ sym (ap (lookup (is_at (nat_cmp id))) h.indexed) ∙ line in
          let same : h.place f.id ≡ at = cc places in
          let there = (found_in (λ f. f.id == id) es f is).1 in
          (f, is, sym (ap (get slots) same) ∙ kept_at slots index es h f there)

  -- an id that the index lacks is in no entry
  pub by_id_none : (slots : Slab (Entry T)) (index : List (ℕ × ℕ)) (es : List (Entry T)) (id : ℕ) →
      Holds slots index es → lookup (is_at (nat_cmp id)) index ≡ None → find (λ f. f.id == id) es ≡ None
  by_id_none slots index es id h line = by_case (find (λ f. f.id == id) es) refl
    where
      by_case : (o : Option (Entry T)) → find (λ f. f.id == id) es ≡ o → find (λ f. f.id == id) es ≡ None
      by_case None is = is
      by_case (Some f) is = absurd (let no : Some (h.place f.id) ≡ None =
          sym (ap (option_map (λ f. h.place f.id)) is) ∙ sym (lookup-line id h.place es) ∙
          sym (ap (lookup (is_at (nat_cmp id))) h.indexed) ∙ line in cc)

  -- an entry has the id that is in its token
  id_in_token : (es : List (Entry T)) (token : ℕ) (f : Entry T) →
      All (λ e. e.token ≡ token_of (key_of e.token) e.id) es → find (λ f. f.token == token) es ≡ Some f →
      (f.id ≡ id_of token) × (f.token ≡ token) × Contains es f
  id_in_token es token f tokens one =
      let found = found_in (λ f. f.token == token) es f one in
      let its : f.token ≡ token = is_same f.token token found.0 in
      let made = All-contains (λ e. e.token ≡ token_of (key_of e.token) e.id) es f tokens found.1 in
      (sym (id_of_made f.token f.id made) ∙ ap id_of its, its, found.1)

  -- what stands anywhere in the slab with a token is the entry with this token
  pub by_token_near : (slots : Slab (Entry T)) (index : List (ℕ × ℕ)) (es : List (Entry T)) (token at : ℕ)
      (e : Entry T) → Holds slots index es → All (λ e. e.token ≡ token_of (key_of e.token) e.id) es →
      get slots at ≡ Some e → e.token ≡ token → find (λ f. f.token == token) es ≡ Some e
  by_token_near slots index es token at e h tokens is its = by_case (find (λ f. f.token == token) es) refl
    where
      there : Contains es e
      there = (h.no_others at e is).0

      made : id_of e.token ≡ e.id
      made = id_of_made e.token e.id (All-contains (λ e. e.token ≡ token_of (key_of e.token) e.id) es e tokens there)

      by_case : (o : Option (Entry T)) → find (λ f. f.token == token) es ≡ o → find (λ f. f.token == token) es ≡ Some e
      by_case None none = absurd (not_none (λ f. f.token == token) es e there (same_is e.token token its) none)
      by_case (Some f) one = let found = id_in_token es token f tokens one in
          one ∙ ap Some (same_entry slots index es f e h found.2 there (found.0 ∙ sym (ap id_of its) ∙ made))

  -- the entry with a token is the one with the id in it, if this has the token
  pub by_token_found : (slots : Slab (Entry T)) (index : List (ℕ × ℕ)) (es : List (Entry T)) (token : ℕ) (e : Entry T) →
      Holds slots index es → All (λ e. e.token ≡ token_of (key_of e.token) e.id) es →
      find (λ f. f.id == id_of token) es ≡ Some e → e.token ≡ token → find (λ f. f.token == token) es ≡ Some e
  by_token_found slots index es token e h tokens at its = by_case (find (λ f. f.token == token) es) refl
    where
      named : ((e.id == id_of token) ≡ true) × Contains es e
      named = found_in (λ f. f.id == id_of token) es e at

      by_case : (o : Option (Entry T)) → find (λ f. f.token == token) es ≡ o → find (λ f. f.token == token) es ≡ Some e
      by_case None none = absurd (not_none (λ f. f.token == token) es e named.1 (same_is e.token token its) none)
      by_case (Some f) one = let found = id_in_token es token f tokens one in
          one ∙ ap Some (same_entry slots index es f e h found.2 named.1
          (found.0 ∙ sym (is_same e.id (id_of token) named.0)))

  -- where no entry has the id in a token, none has the token
  pub by_token_none : (es : List (Entry T)) (token : ℕ) → All (λ e. e.token ≡ token_of (key_of e.token) e.id) es →
      find (λ f. f.id == id_of token) es ≡ None → find (λ f. f.token == token) es ≡ None
  by_token_none es token tokens none = by_case (find (λ f. f.token == token) es) refl
    where
      by_case : (o : Option (Entry T)) → find (λ f. f.token == token) es ≡ o → find (λ f. f.token == token) es ≡ None
      by_case None is = is
      by_case (Some f) one = let found = id_in_token es token f tokens one in
          absurd (not_none (λ f. f.id == id_of token) es f found.2 (same_is f.id (id_of token) found.0) none)

  -- where the entry with the id in a token has another token, none has this one
  pub by_token_other : (slots : Slab (Entry T)) (index : List (ℕ × ℕ)) (es : List (Entry T)) (token : ℕ) (e : Entry T) →
      Holds slots index es → All (λ e. e.token ≡ token_of (key_of e.token) e.id) es →
      find (λ f. f.id == id_of token) es ≡ Some e → e.token ≢ token → find (λ f. f.token == token) es ≡ None
  by_token_other slots index es token e h tokens at other = by_case (find (λ f. f.token == token) es) refl
    where
      named : ((e.id == id_of token) ≡ true) × Contains es e
      named = found_in (λ f. f.id == id_of token) es e at

      by_case : (o : Option (Entry T)) → find (λ f. f.token == token) es ≡ o → find (λ f. f.token == token) es ≡ None
      by_case None is = is
      by_case (Some f) one = let found = id_in_token es token f tokens one in
          absurd (other (ap (λ g. g.token) (same_entry slots index es e f h named.1 found.2
          (is_same e.id (id_of token) named.0 ∙ sym found.0)) ∙ found.1))

  -- an id above all others comes last in the index
  pub insert_entry-last : (id at : ℕ) (place : ℕ → ℕ) (es : List (Entry T)) → All (λ e. e.id < id) es →
      insert_entry nat_cmp (map (line_of place) es) id at ≡ map (line_of place) es ++ (id, at) ∷ []
  insert_entry-last id at place [] below = refl
  insert_entry-last id at place (e ∷ es) below =
      ap (λ o. match_ordering o ((id, at) ∷ line_of place e ∷ map (line_of place) es)
      ((e.id, at) ∷ map (line_of place) es)
      (line_of place e ∷ insert_entry nat_cmp (map (line_of place) es) id at))
      (above e.id id (All-head (λ e. e.id < id) e es below))
      ∙ ap (λ r. line_of place e ∷ r) (insert_entry-last id at place es (All-tail (λ e. e.id < id) e es below))
    where
      above : (a b : ℕ) → a < b → nat_cmp b a ≡ Greater
      above a b h = grind (arith)

  -- the lines of the entries before an id stay, and it comes last
  pub lines-push : (place : ℕ → ℕ) (at : ℕ) (es : List (Entry T)) (e : Entry T) → All (λ f. f.id < e.id) es →
      map (line_of place) es ++ (e.id, at) ∷ [] ≡ map (line_of (with_place place e.id at)) (es ++ e ∷ [])
  lines-push place at [] e below = ap (λ p. (e.id, p) ∷ []) (sym (with_place-own place e.id at))
  lines-push place at (f ∷ es) e below =
      ap (λ p. (f.id, p) ∷ (map (line_of place) es ++ (e.id, at) ∷ []))
      (sym (with_place-other place e.id at f.id (All-head (λ f. f.id < e.id) f es below)))
      ∙ ap (λ r. line_of (with_place place e.id at) f ∷ r)
      (lines-push place at es e (All-tail (λ f. f.id < e.id) f es below))

  -- one entry more, at a place that was vacant
  pub Holds-push : (slots new : Slab (Entry T)) (index : List (ℕ × ℕ)) (es : List (Entry T)) (e : Entry T) (at : ℕ) →
      Holds slots index es → All (λ f. f.id < e.id) es → get slots at ≡ None →
      Updates slots new at (Some e) → Holds new (insert_entry nat_cmp index e.id at) (es ++ e ∷ [])
  Holds-push slots new index es e at h below vacant up = record {
    place = with_place h.place e.id at;
    indexed = ap (λ l. insert_entry nat_cmp l e.id at) h.indexed ∙ insert_entry-last e.id at h.place es below ∙
        lines-push h.place at es e below;
    kept = All-push (λ f. get new (with_place h.place e.id at f.id) ≡ Some f) es e
        (λ k d within. let f = get_or es k d in
        ap (get new) (with_place-other h.place e.id at f.id (below k d within)) ∙
        up.others (h.place f.id) (taken f (h.kept k d within)) ∙ h.kept k d within)
        (ap (get new) (with_place-own h.place e.id at) ∙ up.changed);
    no_others = λ k f is. elim (eqb_tells k at) [
      | inl same ↦ (let one_is : Some e ≡ Some f = sym up.changed ∙ sym (ap (get new) same.1) ∙ is in
          let one : e ≡ f = cc one_is in (
            subst (Contains (es ++ e ∷ [])) one (Contains-push es e),
            ap (λ x. with_place h.place e.id at x.id) (sym one) ∙ with_place-own h.place e.id at ∙ sym same.1,
          ))
      | inr apart ↦ (let was = h.no_others k f (sym (up.others k apart.1) ∙ is) in (
        Contains-append_left es (e ∷ []) f was.0,
        with_place-other h.place e.id at f.id (All-contains (λ g. g.id < e.id) es f below was.0) ∙ was.1,
      ))
    ];
  }
    where
      taken : (f : Entry T) → get slots (h.place f.id) ≡ Some f → h.place f.id ≢ at
      taken f is same = absurd (let no : None ≡ Some f = sym vacant ∙ sym (ap (get slots) same) ∙ is in cc)

  -- where the entry of this id and this place stands, whose line a removal takes out of the index
  pub record Gone (place : ℕ → ℕ) (es : List (Entry T)) (id at : ℕ) : Type 0 where
    pub nth : ℕ
    pub entry : Entry T
    pub within : nth < length es
    pub is : entry ≡ get_or es nth entry
    pub named : entry.id ≡ id
    pub its_place : place entry.id ≡ at
    pub left : remove_entry (is_at (nat_cmp id)) (map (line_of place) es) ≡ map (line_of place) (remove es nth)

  pub gone : (place : ℕ → ℕ) (id at : ℕ) (es : List (Entry T)) →
      lookup (is_at (nat_cmp id)) (map (line_of place) es) ≡ Some at → Gone place es id at
  gone place id at [] line = absurd (let no : None ≡ Some at = line in cc)
  gone place id at (e ∷ es) line = by_case (gone place id at es) (is_eq (nat_cmp id e.id)) refl line
    where
      by_case : (lookup (is_at (nat_cmp id)) (map (line_of place) es) ≡ Some at → Gone place es id at) → (b : Bool) →
          is_eq (nat_cmp id e.id) ≡ b →
          cond b (Some (place e.id)) (lookup (is_at (nat_cmp id)) (map (line_of place) es)) ≡ Some at →
          Gone place (e ∷ es) id at
      by_case more true was line = record {
        nth = 0;
        entry = e;
        within = omega arith;
        is = refl;
        named = at_is id e.id was;
        its_place = cc line;
        left = ap (λ b. cond b (map (line_of place) es)
            (line_of place e ∷ remove_entry (is_at (nat_cmp id)) (map (line_of place) es))) was;
      }
      by_case more false was line = let rest = more line in record {
        nth = suc rest.nth;
        entry = rest.entry;
        within = let w = rest.within in omega (arith, w);
        is = rest.is;
        named = rest.named;
        its_place = rest.its_place;
        left = ap (λ b. cond b (map (line_of place) es)
            (line_of place e ∷ remove_entry (is_at (nat_cmp id)) (map (line_of place) es))) was ∙
            ap (λ r. line_of place e ∷ r) rest.left;
      }

  -- without the element at a place, every other element is there
  pub Contains-remove : (es : List (Entry T)) (i : ℕ) (e f : Entry T) → i < length es → e ≡ get_or es i e →
      (e ≡ f → ⊥) → Contains es f → Contains (remove es i) f
  Contains-remove es i e f within is other there =
      let parted : es ≡ take i es ++ e ∷ drop (suc i) es = sym (take-append-drop i es) ∙
      ap (λ t. take i es ++ t) (drop-cons es i e within ∙ ap (λ x. x ∷ drop (suc i) es) (sym is)) in
      elim (Contains-append_cases (take i es) (e ∷ drop (suc i) es) f (subst (λ l. Contains l f) parted there)) [
        | inl front ↦ Contains-append_left (take i es) (drop (suc i) es) f front
        | inr rest ↦ elim (Contains-append_cases (e ∷ []) (drop (suc i) es) f rest) [
          | inl here ↦ elim (Contains-push_cases [] e f here) [
            | inl nowhere ↦ absurd (let n = nowhere.1 in omega (arith, n))
            | inr same ↦ absurd (other same)
          ]
          | inr back ↦ Contains-append_right (take i es) (drop (suc i) es) f back
        ]
      ]

  -- one entry less
  pub Holds-remove : (slots new : Slab (Entry T)) (index : List (ℕ × ℕ)) (es : List (Entry T)) (id at : ℕ)
      (h : Holds slots index es) (g : Gone h.place es id at) → AllPairs (λ e f. e.id < f.id) es →
      Updates slots new at None → Holds new (remove_entry (is_at (nat_cmp id)) index) (remove es g.nth)
  Holds-remove slots new index es id at h g rising up =
      let other = removed_has_no (λ f. f.id) es g.nth g.entry g.within g.is (ids_differ es rising) in
      let were = All-remove (λ e. get slots (h.place e.id) ≡ Some e) es g.nth h.kept in
      let its : get slots at ≡ Some g.entry = ap (get slots) (sym g.its_place) ∙
      kept_at slots index es h g.entry (g.nth, g.within, sym g.is) in
      record {
        place = h.place;
        indexed = ap (remove_entry (is_at (nat_cmp id))) h.indexed ∙ g.left;
        kept = λ k d within. let f = get_or (remove es g.nth) k d in
            up.others (h.place f.id) (λ same. other k d within (let one : Some f ≡ Some g.entry =
            sym (were k d within) ∙ ap (get slots) same ∙ its in let is : f ≡ g.entry = cc one in
            ap (λ x. x.id) is)) ∙ were k d within;
        no_others = λ k f is. elim (eqb_tells k at) [
          | inl same ↦ absurd (let no : None ≡ Some f = sym up.changed ∙ sym (ap (get new) same.1) ∙ is in cc)
          | inr apart ↦ (let was = h.no_others k f (sym (up.others k apart.1) ∙ is) in let differs = apart.1 in (
            Contains-remove es g.nth g.entry f g.within g.is
                (λ same. differs (sym was.1 ∙ ap (λ x. h.place x.id) (sym same) ∙ g.its_place)) was.0,
            was.1,
          ))
        ];
      }

  -- more room changes nothing
  pub Holds-same : (slots new : Slab (Entry T)) (index : List (ℕ × ℕ)) (es : List (Entry T)) → new.slots ≡ slots.slots →
      Holds slots index es → Holds new index es
  Holds-same slots new index es same h = record {
    place = h.place;
    indexed = h.indexed;
    kept = λ k d within. ap (λ l. get_or l (h.place (get_or es k d).id) None) same ∙ h.kept k d within;
    no_others = λ k f at. h.no_others k f (sym (ap (λ l. get_or l k None) same) ∙ at);
  }

  -- the ids of the index are the ids of the entries
  pub keys_of-lines : (place : ℕ → ℕ) (es : List (Entry T)) → keys_of (map (line_of place) es) ≡ ids_of es
  keys_of-lines place [] = refl
  keys_of-lines place (e ∷ es) = ap (λ r. e.id ∷ r) (keys_of-lines place es)

  -- an id that is not found is in no entry
  pub unknown : (id : ℕ) (es : List (Entry T)) → find (λ e. e.id == id) es ≡ None → All (λ e. e.id ≢ id) es
  unknown id es none = All-weaker (λ e. (e.id == id) ≡ false) (λ e. e.id ≢ id) (λ e h. not_same e.id id h) es
      (none_passes (λ e. e.id == id) es none)
