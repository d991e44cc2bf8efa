use Rattle.std.proofs.Common.{◌++◌, ◌∷◌, [], ap, subst, sym}
use Rattle.lang_ast.specs.NameFaults.{is_function, is_variable, is_declared_once}
use Rattle.lang_names.specs.Collected.{seen_occurrence}
use Rattle.lang_names.specs.Known.{HasAs}
use Rattle.lang_names.specs.declared.name_set.NameSet.{NameSet}
use Rattle.lang_names.proofs.Known.{map_ok, map_both_ok, has_one_more, has_same, knows_same}
use Rattle.lang_names.proofs.names.Names.add.Goals as goal

pub returns-in-Function : goal.returns-in-Function
returns-in-Function c =
    map_ok _ _ c.add.result (λ added os k. record {
      functions = has_one_more is_function c.args.self.now.functions c.add.new.self os (seen_occurrence c.args.occurrence.now) (ap is_function c.in-Function.is) added k.functions;
      variables = has_same is_variable c.args.self.now.variables os (seen_occurrence c.args.occurrence.now) (ap is_variable c.in-Function.is) k.variables;
      declared = has_same is_declared_once c.args.self.now.declared os (seen_occurrence c.args.occurrence.now) (ap is_declared_once c.in-Function.is) k.declared;
    }) c.add.ensures

pub returns-in-Parameter : goal.returns-in-Parameter
returns-in-Parameter c =
    map_both_ok _ _ _ c.add_declared.result (λ variable declared os k. record {
      functions =
          (let HasFunctions : NameSet → Type 0 = λ set. HasAs is_function set (os ++ (seen_occurrence c.args.occurrence.now) ∷ []) in
          subst HasFunctions (sym c.add_declared.ensures.functions) (has_same is_function c.args.self.now.functions os (seen_occurrence c.args.occurrence.now) (ap is_function c.in-Parameter.is) k.functions));
      variables = has_one_more is_variable c.args.self.now.variables c.add_declared.new.self.variables os (seen_occurrence c.args.occurrence.now) (ap is_variable c.in-Parameter.is) variable k.variables;
      declared = has_one_more is_declared_once c.args.self.now.declared c.add_declared.new.self.declared os (seen_occurrence c.args.occurrence.now) (ap is_declared_once c.in-Parameter.is) declared k.declared;
    }) c.add_declared.ensures.variables c.add_declared.ensures.declared

pub returns-in-Variable : goal.returns-in-Variable
returns-in-Variable c =
    map_both_ok _ _ _ c.add_declared-in-Variable.result (λ variable declared os k. record {
      functions =
          (let HasFunctions : NameSet → Type 0 = λ set. HasAs is_function set (os ++ (seen_occurrence c.args.occurrence.now) ∷ []) in
          subst HasFunctions (sym c.add_declared-in-Variable.ensures.functions) (has_same is_function c.args.self.now.functions os (seen_occurrence c.args.occurrence.now) (ap is_function c.in-Variable.is) k.functions));
      variables = has_one_more is_variable c.args.self.now.variables c.add_declared-in-Variable.new.self.variables os (seen_occurrence c.args.occurrence.now) (ap is_variable c.in-Variable.is) variable k.variables;
      declared = has_one_more is_declared_once c.args.self.now.declared c.add_declared-in-Variable.new.self.declared os (seen_occurrence c.args.occurrence.now) (ap is_declared_once c.in-Variable.is) declared k.declared;
    }) c.add_declared-in-Variable.ensures.variables c.add_declared-in-Variable.ensures.declared

pub returns-in-Caught : goal.returns-in-Caught
returns-in-Caught c =
    map_ok _ _ c.add-in-Caught.result (λ added os k. record {
      functions = has_same is_function c.args.self.now.functions os (seen_occurrence c.args.occurrence.now) (ap is_function c.in-Caught.is) k.functions;
      variables = has_one_more is_variable c.args.self.now.variables c.add-in-Caught.new.self os (seen_occurrence c.args.occurrence.now) (ap is_variable c.in-Caught.is) added k.variables;
      declared = has_same is_declared_once c.args.self.now.declared os (seen_occurrence c.args.occurrence.now) (ap is_declared_once c.in-Caught.is) k.declared;
    }) c.add-in-Caught.ensures

pub returns-in-Read : goal.returns-in-Read
returns-in-Read c =
    knows_same c.args.self.now (seen_occurrence c.args.occurrence.now) (ap is_function c.in-Read.is) (ap is_variable c.in-Read.is) (ap is_declared_once c.in-Read.is)

pub returns-in-Assigned : goal.returns-in-Assigned
returns-in-Assigned c =
    knows_same c.args.self.now (seen_occurrence c.args.occurrence.now) (ap is_function c.in-Assigned.is) (ap is_variable c.in-Assigned.is) (ap is_declared_once c.in-Assigned.is)

pub returns-in-Called : goal.returns-in-Called
returns-in-Called c =
    knows_same c.args.self.now (seen_occurrence c.args.occurrence.now) (ap is_function c.in-Called.is) (ap is_variable c.in-Called.is) (ap is_declared_once c.in-Called.is)
