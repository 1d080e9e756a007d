pub mod LinksLaws
pub mod UnlinkedLaws
