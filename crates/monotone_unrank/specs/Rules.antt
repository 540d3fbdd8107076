-- What unranking answers, for all inputs, in document 01's numbers: the checks in 01's order, and then the value. Assumes nothing.
--   unrank_over_says F n k r    the count's refusal; 3; the index of the word of rank r
--   unrank_says F n k r room    the count's refusal; 3; 8; the word of rank r
--   widest F k    the alphabet whose shifted alphabet is 64
--   unrank_any_says F k r    1 if k is above 64; then as over the widest alphabet
use Rattle.std.specs.Prelude.{List, ℕ, leb, ltb}
use Rattle.words.specs.declared.Family.{Family}
use Rattle.words.specs.Unrank.{unrank_of}
use Rattle.answers.specs.declared.Index.{Index}
use Rattle.answers.specs.Says.{Says, gives, refused_if, and_then}
use Rattle.answers.specs.Terms.{index_of}
use Rattle.monotone_count.specs.Rules.{count_says}
use Rattle.widths.specs.Rules.{widest_in}

abbrev pub unrank_over_says : Family → ℕ → ℕ → ℕ → Says Index
unrank_over_says F n k r = and_then (count_says F n k) (λ c. refused_if (leb c r) 3 (gives (index_of F n (unrank_of F k r))))

abbrev pub unrank_says : Family → ℕ → ℕ → ℕ → ℕ → Says (List ℕ)
unrank_says F n k r room = and_then (count_says F n k) (λ c. refused_if (leb c r) 3 (refused_if (ltb room k) 8 (gives (unrank_of F k r))))

abbrev pub widest : Family → ℕ → ℕ
widest F k = widest_in 64 F k

abbrev pub unrank_any_says : Family → ℕ → ℕ → Says Index
unrank_any_says F k r = refused_if (ltb 64 k) 1 (unrank_over_says F (widest F k) k r)
