-- Theories piled up.
use Rattle.calculus.specs.Kinds.{Kind}
use Rattle.rows.specs.Linear.{linear}
use Rattle.congruences.specs.Congruences.{congruence}
use Rattle.linear.specs.declared.store.Linear.{Linear}
use Rattle.linear.specs.Models.{table}
use Rattle.congruence.specs.declared.layer.Congruence.{Congruence}
use Rattle.congruence.specs.Views.{layer_model}

-- congruence over linear: layer 1 and layer 2
abbrev pub congruent_linear : Kind
congruent_linear = congruence linear

-- and congruence over that, with functions of its own
abbrev pub twice_congruent : Kind
twice_congruent = congruence congruent_linear

-- what the piles of the code stand for
abbrev pub congruent_linear_of : Congruence Linear → congruent_linear.Model
congruent_linear_of c = layer_model linear (table c.below) c.applications

abbrev pub twice_congruent_of : Congruence (Congruence Linear) → twice_congruent.Model
twice_congruent_of c = layer_model congruent_linear (congruent_linear_of c.below) c.applications
