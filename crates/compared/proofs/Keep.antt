-- Those of a list that pass a test, and what its members are.
use mathlib.Core.Path.{◌≡◌, refl, sym, ◌∙◌, ap, subst}
use mathlib.Core.Bool.{Bool, true, false, cond}
use mathlib.Core.List.Memᴰ
use mathlib.Core.List.{List, [], ◌∷◌, ◌++◌, map, Memᴰ}
use mathlib.Core.Logic.{⊎_elim}
use Rattle.compared.specs.Differences.{keep}

-- each of the list is such
abbrev pub Each : {A : Type 0} → (A → Type 0) → List A → Type 0
Each {A} P xs = (d : A) → Memᴰ d xs → P d

pub cons_not_nil : {A : Type 0} {x : A} {xs : List A} → x ∷ xs ≡ [] → ⊥
cons_not_nil {A} {x} {xs} e = subst (λ (ys : List A). Memᴰ x ys → ⊥) (sym e) Memᴰ.not-nil (Memᴰ.head refl)

module _ {A : Type 0} where
  pub each_append : (P : A → Type 0) (xs ys : List A) → Each P xs → Each P ys → Each P (xs ++ ys)
  each_append P xs ys p q d m = ⊎_elim (p d) (q d) (Memᴰ.append_cases xs m)

  pub each_nil : (P : A → Type 0) → Each P []
  each_nil P d m = absurd (Memᴰ.not-nil m)

  pub each_cons : (P : A → Type 0) (x : A) (xs : List A) → P x → Each P xs → Each P (x ∷ xs)
  each_cons P x xs p q d m = ⊎_elim (λ (e : d ≡ x). subst P (sym e) p) (q d) (Memᴰ.cases_cons m)

  pub map_member : {B : Type 0} (f : A → B) {x : A} (xs : List A) → Memᴰ x xs → Memᴰ (f x) (map f xs)
  map_member f xs (Memᴰ.head e) = Memᴰ.head (ap f e)
  map_member f xs (Memᴰ.tail {xs = ys} m) = Memᴰ.tail (map_member f ys m)

  module _ (t : A → Bool) where
    -- what is kept is of the list, and passes
    pub kept_each : (xs : List A) → Each (λ d. Memᴰ d xs × (t d ≡ true)) (keep t xs)
    unfolding keep
    kept_each [] d m = absurd (Memᴰ.not-nil m)
    kept_each (x ∷ xs) d m = go (t x) refl m (kept_each xs d)
      where
        go : (b : Bool) → t x ≡ b → Memᴰ d (cond b (x ∷ keep t xs) (keep t xs))
            → (Memᴰ d (keep t xs) → Memᴰ d xs × (t d ≡ true)) → Memᴰ d (x ∷ xs) × (t d ≡ true)
        go true e n below =
            ⊎_elim (λ (f : d ≡ x). (Memᴰ.head f, ap t f ∙ e)) (λ k. let p = below k in (Memᴰ.tail p.0, p.1))
            (Memᴰ.cases_cons n)
        go false e n below = let p = below n in (Memᴰ.tail p.0, p.1)

    -- what passes is kept
    pub passing_kept : (d : A) (xs : List A) → Memᴰ d xs → t d ≡ true → Memᴰ d (keep t xs)
    unfolding keep
    passing_kept d xs (Memᴰ.head {x = x} {xs = ys} e) p =
        let q : t x ≡ true = ap t (sym e) ∙ p in
        rw q (Memᴰ.head e)
    passing_kept d xs (Memᴰ.tail {x = x} {xs = ys} m) p = go (t x) (passing_kept d ys m p)
      where
        go : (b : Bool) → Memᴰ d (keep t ys) → Memᴰ d (cond b (x ∷ keep t ys) (keep t ys))
        go true n = Memᴰ.tail n
        go false n = n

    -- nothing is kept exactly where none passes
    pub none_kept : (xs : List A) → Each (λ d. t d ≡ false) xs → keep t xs ≡ []
    unfolding keep
    none_kept [] p = refl
    none_kept (x ∷ xs) p = rw (p x (Memᴰ.head refl)) (none_kept xs (λ d m. p d (Memᴰ.tail m)))

    pub kept_none : (xs : List A) → keep t xs ≡ [] → Each (λ d. t d ≡ false) xs
    kept_none xs e d m = go (t d) refl
      where
        go : (b : Bool) → t d ≡ b → t d ≡ false
        go true f = absurd (Memᴰ.not-nil (rw e at (passing_kept d xs m f)))
        go false f = f

    pub keep_append : (xs ys : List A) → keep t (xs ++ ys) ≡ keep t xs ++ keep t ys
    unfolding keep
    keep_append [] ys = refl
    keep_append (x ∷ xs) ys = go (t x) (keep_append xs ys)
      where
        go : (b : Bool) → keep t (xs ++ ys) ≡ keep t xs ++ keep t ys
            → cond b (x ∷ keep t (xs ++ ys)) (keep t (xs ++ ys)) ≡ cond b (x ∷ keep t xs) (keep t xs) ++ keep t ys
        go true e = ap (λ (zs : List A). x ∷ zs) e
        go false e = e

  -- two tests one after the other, in either order
  pub keep_swap : (t u : A → Bool) (xs : List A) → keep t (keep u xs) ≡ keep u (keep t xs)
  unfolding keep
  keep_swap t u [] = refl
  keep_swap t u (x ∷ xs) = go (t x) (u x) refl refl (keep_swap t u xs)
    where
      go : (b c : Bool) → t x ≡ b → u x ≡ c → keep t (keep u xs) ≡ keep u (keep t xs)
          → keep t (cond c (x ∷ keep u xs) (keep u xs)) ≡ keep u (cond b (x ∷ keep t xs) (keep t xs))
      go true true e f h = rw (e, f) (ap (λ (zs : List A). x ∷ zs) h)
      go true false e f h = rw f h
      go false true e f h = rw e h
      go false false e f h = h

-- what is made of each
pub each_map : {A B : Type 0} (P : B → Type 0) (f : A → B) (xs : List A) → Each (λ x. P (f x)) xs → Each P (map f xs)
each_map P f [] p d m = absurd (Memᴰ.not-nil m)
each_map P f (x ∷ xs) p d m =
    each_cons P (f x) (map f xs) (p x (Memᴰ.head refl)) (each_map P f xs (λ e n. p e (Memᴰ.tail n))) d m
