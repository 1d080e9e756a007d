pub mod MappingLaws
