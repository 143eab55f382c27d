-- `those` is `those_at` whose test does not look at the place.
use Rattle.std.proofs.Common.{ap, ◌∙◌, rules}
use Rattle.masks.specs.Mask.{mask}
use Rattle.masks.proofs.Laws.{same_at}
use Rattle.masks.proofs.those.Goals as goal

pub returns : goal.returns
returns g c = record {
  first = λ f t. c.those_at.ensures.first (λ i x. f x) (λ i x b a. search (rules, t, a)) ∙ ap mask (same_at f 0 _);
  fits = λ h f t. c.those_at.ensures.fits h (λ i x. f x) (λ i x b a. search (rules, t, a)) ∙ ap mask (same_at f 0 _);
}
