-- Part after part of a listing, and what they come to.
use Rattle.std.specs.Prelude.{◌≡◌, ◌∷◌, ◌++◌, OnOk, OnErr}
use Rattle.relay_admin.proofs.Words.{◌∙◌, sym, ap, refl, subst, ℕ, List, [], length, take, Option, Some, None, inl, inr}
use Rattle.relay_admin.proofs.Words.{append_assoc, append-nil, Appends, AppendsFront, appends_nothing, drop}
use Rattle.relay_admin.proofs.Words.{take-append-drop, Ok, Err, Result}
use Rattle.relay_admin.proofs.Words.{appends_then_appends, Exchange, questions_of}
use Rattle.std.proofs.lemmas.List.{take_at}
use Rattle.relay_admin.specs.declared.admin.listing.Part.{Part}
use Rattle.relay_admin.specs.declared.admin.listing.Part.TheVariants as part
use Rattle.relay_admin.specs.declared.admin.reply_bytes.Reply.{Reply}
use Rattle.relay_admin.specs.declared.admin.reply_text.TheConstants.{SHOWN_ALL}
use Rattle.relay_admin.specs.admin.Listing.{Comes, Said, Shows, each, gone, line, refused, shown_all, whole}
use Rattle.relay_admin.specs.admin.Parts.{LineComes, PartComes}
use Rattle.relay_admin.specs.admin.Reply.{AddsExchanges, Key, Sight, sight_key, sight_line, looked_at}
use Rattle.relay_admin.specs.admin.ReplyBytes.{bytes_of}
use Rattle.relay_admin.proofs.LineTranscripts.{adds_none, adds_then}
use Rattle.relay_admin.proofs.Listings.{all_gone, gone_looks}
use Rattle.relay_workers.specs.Answering.{Delivers, DeliversFront}

gone_asks_nothing : (list : List Key) → questions_of (gone_looks list) ≡ []
gone_asks_nothing [] = refl
gone_asks_nothing (key ∷ keys) = gone_asks_nothing keys

-- how much is still to come: lines, or bytes
abbrev pub still_to_come : Said → ℕ
still_to_come (each left) = length left
still_to_come (whole text) = length text

-- ---- The parts so far

pub record SoFar (all left : Said) (k0 k1 : Option (List Exchange)) (h0 h1 : Option (List ℕ)) : Type 0 where
  pub looks : List Exchange
  pub text : List ℕ
  pub told : AddsExchanges k0 k1 looks
  pub written : Appends h0 h1 text
  pub carry : (more : List Exchange) (rest : List ℕ) → Comes left more rest → Comes all (looks ++ more) (text ++ rest)

pub so_far_none : (all : Said) (k : Option (List Exchange)) (h : Option (List ℕ)) → SoFar all all k k h h
so_far_none all k h =
    record { looks = []; text = []; told = adds_none k; written = appends_nothing h; carry = λ more rest are. are }

pub so_far_gone : (A : Type 0) (all left left' : Said) (k0 k1 k2 : Option (List Exchange)) (h0 h1 : Option (List ℕ))
    → SoFar all left k0 k1 h0 h1 → PartComes {A = A} part.Gone left left' k1 k2 → SoFar all left' k0 k2 h0 h1
so_far_gone A all (each left) (each left') k0 k1 k2 h0 h1 s p =
    let one : List Exchange = looked_at p.0 None ∷ [] in
    record {
      looks = s.looks ++ one;
      text = s.text;
      told = adds_then k0 k1 k2 s.looks one s.told p.2;
      written = s.written;
      carry = λ more rest are. subst (λ (m : List Exchange). Comes all m (s.text ++ rest))
          (sym (append_assoc s.looks one more))
          (s.carry (looked_at p.0 None ∷ more) rest
          (subst (λ (l : List Key). Shows l (looked_at p.0 None ∷ more) rest) (sym p.1) (gone are)));
    }
so_far_gone A all (whole text) (whole text') k0 k1 k2 h0 h1 s p = absurd p.1
so_far_gone A all (each left) (whole text') k0 k1 k2 h0 h1 s p = absurd p
so_far_gone A all (whole text) (each left') k0 k1 k2 h0 h1 s p = absurd p

-- the part is a line or a piece, whose bytes are these
pub so_far_line : {A : Type 0} (reply : Reply A) (all left left' : Said) (written : List ℕ)
    (k0 k1 k2 : Option (List Exchange)) (h0 h1 h2 : Option (List ℕ)) → SoFar all left k0 k1 h0 h1
    → PartComes (part.Line reply) left left' k1 k2
    → written ≡ bytes_of reply → Appends h1 h2 written → SoFar all left' k0 k2 h0 h2
so_far_line reply all (each left) (each left') written k0 k1 k2 h0 h1 h2 s p same w =
    let seen = p.0 in
    let one : List Exchange = looked_at (sight_key seen) (Some seen) ∷ [] in
    record {
      looks = s.looks ++ one;
      text = s.text ++ sight_line seen;
      told = adds_then k0 k1 k2 s.looks one s.told p.2;
      written = appends_then_appends h0 h1 h2 s.text (sight_line seen) s.written
          (subst (λ (t : List ℕ). Appends h1 h2 t) (same ∙ p.3) w);
      carry = λ more rest are. subst (λ (t : List ℕ). Comes all ((s.looks ++ one) ++ more) t)
          (sym (append_assoc s.text (sight_line seen) rest))
          (subst (λ (m : List Exchange). Comes all m (s.text ++ (sight_line seen ++ rest)))
          (sym (append_assoc s.looks one more))
          (s.carry (looked_at (sight_key seen) (Some seen) ∷ more) (sight_line seen ++ rest)
          (subst (λ (l : List Key). Shows l (looked_at (sight_key seen) (Some seen) ∷ more) (sight_line seen ++ rest)) (sym p.1)
          (line seen are))));
    }
so_far_line reply all (whole text) (whole text') written k0 k1 k2 h0 h1 h2 s p same w = record {
  looks = s.looks;
  text = s.text ++ bytes_of reply;
  told = subst (λ (k : Option (List Exchange)). AddsExchanges k0 k s.looks) (sym p.0) s.told;
  written = appends_then_appends h0 h1 h2 s.text (bytes_of reply) s.written
      (subst (λ (t : List ℕ). Appends h1 h2 t) same w);
  carry = λ more rest are. subst (λ (t : List ℕ). Comes all (s.looks ++ more) t)
      (sym (append_assoc s.text (bytes_of reply) rest))
      (s.carry more (bytes_of reply ++ rest) (are.0, ap (λ (t : List ℕ). bytes_of reply ++ t) are.1 ∙ sym p.1.0));
}
so_far_line reply all (each left) (whole text') written k0 k1 k2 h0 h1 h2 s p same w = absurd p
so_far_line reply all (whole text) (each left') written k0 k1 k2 h0 h1 h2 s p same w = absurd p

-- ---- The last part

-- what the last part comes to, whose bytes are these
abbrev LastComes : Said → List ℕ → Option (List Exchange) → Option (List Exchange) → Type 0
LastComes left bytes k0 k1 = (looks : List Exchange) × Comes left looks bytes × AddsExchanges k0 k1 looks

last_shows : {A : Type 0} (reply : Reply A) (left left' : List Key) (k0 k1 : Option (List Exchange))
    → LineComes (part.Last reply) left left' k0 k1 → LastComes (each left) (bytes_of reply) k0 k1
last_shows reply left left' k0 k1 (inl p) = (
  [],
  subst (λ (l : List Key). Shows l [] (bytes_of reply)) (sym p.0)
      (subst (λ (t : List ℕ). Shows [] [] t) (sym p.2) shown_all),
  subst (λ (k : Option (List Exchange)). AddsExchanges k0 k []) (sym p.1) (adds_none k0),
)
last_shows reply left left' k0 k1 (inr p) =
    let seen = p.0 in (
      looked_at (sight_key seen) (Some seen) ∷ [],
      subst (λ (l : List Key). Shows l (looked_at (sight_key seen) (Some seen) ∷ []) (bytes_of reply)) (sym p.1)
          (subst (λ (t : List ℕ). Shows (sight_key seen ∷ left') (looked_at (sight_key seen) (Some seen) ∷ []) t) (sym p.3)
          (refused seen)),
      p.2,
    )

pub last_comes : {A : Type 0} (reply : Reply A) (left left' : Said) (k0 k1 : Option (List Exchange))
    → PartComes (part.Last reply) left left' k0 k1 → LastComes left (bytes_of reply) k0 k1
last_comes reply (each left) (each left') k0 k1 p = last_shows reply left left' k0 k1 p
last_comes reply (whole text) (whole text') k0 k1 p =
    ([], (refl, p.1), subst (λ (k : Option (List Exchange)). AddsExchanges k0 k []) (sym p.0) (adds_none k0))
last_comes reply (each left) (whole text') k0 k1 p = absurd p
last_comes reply (whole text) (each left') k0 k1 p = absurd p

pub so_far_ends : (all left : Said) (bytes written : List ℕ) (k0 k1 k2 : Option (List Exchange))
    (h0 h1 h2 : Option (List ℕ)) → SoFar all left k0 k1 h0 h1 → LastComes left bytes k1 k2 → written ≡ bytes
    → Appends h1 h2 written → Delivers all k0 k2 h0 h2
so_far_ends all left bytes written k0 k1 k2 h0 h1 h2 s p same w = record {
  looks = s.looks ++ p.0;
  text = s.text ++ bytes;
  comes = s.carry p.0 bytes p.1;
  told = adds_then k0 k1 k2 s.looks p.0 s.told p.2;
  written = appends_then_appends h0 h1 h2 s.text bytes s.written (subst (λ (t : List ℕ). Appends h1 h2 t) same w);
}

-- ---- A part that couldn't be written

-- a text with a front of the part behind it is a front of the whole
front_of : (text bytes rest : List ℕ) (k : ℕ)
    → text ++ take k bytes ≡ take (length (text ++ take k bytes)) (text ++ (bytes ++ rest))
front_of text bytes rest k =
    let front : List ℕ = text ++ take k bytes in
    let cut : text ++ (bytes ++ rest) ≡ front ++ (drop k bytes ++ rest) =
    ap (λ (t : List ℕ). text ++ (t ++ rest)) (sym (take-append-drop k bytes))
    ∙ ap (λ (t : List ℕ). text ++ t) (append_assoc (take k bytes) (drop k bytes) rest)
    ∙ sym (append_assoc text (take k bytes) (drop k bytes ++ rest)) in
    sym (ap (λ (t : List ℕ). take (length front) t) cut ∙ take_at front (drop k bytes ++ rest) (length front) refl)

breaks_at : (all left : Said) (bytes rest : List ℕ) (more missing : List Exchange)
    (k0 k1 k2 : Option (List Exchange)) (h0 h1 h2 : Option (List ℕ)) → SoFar all left k0 k1 h0 h1
    → Comes left (more ++ missing) (bytes ++ rest) → questions_of missing ≡ [] → AddsExchanges k1 k2 more
    → AppendsFront h1 h2 bytes → DeliversFront all k0 k2 h0 h2
breaks_at all left bytes rest more missing k0 k1 k2 h0 h1 h2 s are unasked told w = record {
  looks = s.looks ++ more;
  missing = missing;
  text = s.text ++ (bytes ++ rest);
  count = length (s.text ++ take w.0 bytes);
  unasked = unasked;
  comes = subst (λ (m : List Exchange). Comes all m (s.text ++ (bytes ++ rest)))
      (sym (append_assoc s.looks more missing)) (s.carry (more ++ missing) (bytes ++ rest) are);
  told = adds_then k0 k1 k2 s.looks more s.told told;
  written = subst (λ (t : List ℕ). Appends h0 h2 t) (front_of s.text bytes rest w.0)
      (appends_then_appends h0 h1 h2 s.text (take w.0 bytes) s.written w.2);
}

pub line_breaks_off : {A : Type 0} (reply : Reply A) (all left left' : Said) (written : List ℕ)
    (k0 k1 k2 : Option (List Exchange)) (h0 h1 h2 : Option (List ℕ)) → SoFar all left k0 k1 h0 h1
    → PartComes (part.Line reply) left left' k1 k2
    → written ≡ bytes_of reply → AppendsFront h1 h2 written → DeliversFront all k0 k2 h0 h2
line_breaks_off reply all (each left) (each left') written k0 k1 k2 h0 h1 h2 s p same w =
    let seen = p.0 in
    let missing = gone_looks left' in
    breaks_at all (each left) (bytes_of reply) SHOWN_ALL.now (looked_at (sight_key seen) (Some seen) ∷ []) missing
    k0 k1 k2 h0 h1 h2 s
    (subst (λ (l : List Key). Shows l (looked_at (sight_key seen) (Some seen) ∷ missing) (bytes_of reply ++ SHOWN_ALL.now))
    (sym p.1)
    (subst (λ (t : List ℕ). Shows (sight_key seen ∷ left') (looked_at (sight_key seen) (Some seen) ∷ missing) (t ++ SHOWN_ALL.now))
    (sym p.3) (line seen (all_gone left')))) (gone_asks_nothing left') p.2
    (subst (λ (t : List ℕ). AppendsFront h1 h2 t) same w)
line_breaks_off reply all (whole text) (whole text') written k0 k1 k2 h0 h1 h2 s p same w =
    breaks_at all (whole text) (bytes_of reply) text' [] [] k0 k1 k2 h0 h1 h2 s (refl, sym p.1.0) refl
    (subst (λ (k : Option (List Exchange)). AddsExchanges k1 k []) (sym p.0) (adds_none k1))
    (subst (λ (t : List ℕ). AppendsFront h1 h2 t) same w)
line_breaks_off reply all (each left) (whole text') written k0 k1 k2 h0 h1 h2 s p same w = absurd p
line_breaks_off reply all (whole text) (each left') written k0 k1 k2 h0 h1 h2 s p same w = absurd p

pub last_breaks_off : (all left : Said) (bytes written : List ℕ) (k0 k1 k2 : Option (List Exchange))
    (h0 h1 h2 : Option (List ℕ)) → SoFar all left k0 k1 h0 h1 → LastComes left bytes k1 k2 → written ≡ bytes
    → AppendsFront h1 h2 written → DeliversFront all k0 k2 h0 h2
last_breaks_off all left bytes written k0 k1 k2 h0 h1 h2 s p same w =
    breaks_at all left bytes [] p.0 [] k0 k1 k2 h0 h1 h2 s
    (subst (λ (m : List Exchange). Comes left m (bytes ++ [])) (sym (append-nil p.0))
    (subst (λ (t : List ℕ). Comes left p.0 t) (sym (append-nil bytes)) p.1)) refl p.2
    (subst (λ (t : List ℕ). AppendsFront h1 h2 t) same w)

-- ---- A whole reply

pub whole_delivered : (said : Said) (reply written : List ℕ) (k : Option (List Exchange)) (h0 h1 : Option (List ℕ))
    → said ≡ whole reply → written ≡ reply → Appends h0 h1 written → Delivers said k k h0 h1
whole_delivered said reply written k h0 h1 is e w = record {
  looks = [];
  text = written;
  comes = subst (λ (s : Said). Comes s [] written) (sym is) (refl, e);
  told = adds_none k;
  written = w;
}

pub whole_breaks_off : (said : Said) (reply written : List ℕ) (k : Option (List Exchange)) (h0 h1 : Option (List ℕ))
    → said ≡ whole reply → written ≡ reply → AppendsFront h0 h1 written → DeliversFront said k k h0 h1
whole_breaks_off said reply written k h0 h1 is e w = record {
  looks = [];
  missing = [];
  text = written;
  count = w.0;
  unasked = refl;
  comes = subst (λ (s : Said). Comes s [] written) (sym is) (refl, e);
  told = adds_none k;
  written = w.2;
}

-- ---- What follows from an outcome

pub ok_then : {A E : Type 0} (r : Result A E) (P Q : Type 0) → OnOk r P → (P → Q) → OnOk r Q
ok_then (Ok x) P Q p f = f p
ok_then (Err e) P Q p f = tt

pub err_then : {A E : Type 0} (r : Result A E) (P Q : Type 0) → OnErr r P → (P → Q) → OnErr r Q
err_then (Ok x) P Q p f = tt
err_then (Err e) P Q p f = f p
