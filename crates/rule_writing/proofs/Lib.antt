-- What the rules write
pub mod RuleLaws
